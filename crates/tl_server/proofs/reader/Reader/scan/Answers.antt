use Rattle.std.proofs.Common.{◌≡◌, ◌≤◌, ◌<◌, ◌+◌, ◌++◌, ◌∷◌, [], arith, length, drop, take, ap, sym, ◌∙◌, append_assoc, append-nil, subst, vec_len, refl}
use Rattle.tl_server.specs.declared.reader.TheConstants.{HELD}
use Rattle.tl_server.specs.Lines.{HasNoLf}
use Rattle.tl_server.specs.Coming.{ReaderValue, held_of}
use Rattle.std.proofs.lemmas.List.{take_all, drop_all, length-take}
use Rattle.tl_server.proofs.Held.{HasNoLf-push, take_push, take_full, next_byte, vec_len-length}
use Rattle.tl_server.proofs.reader.Reader.scan.Goals as goal

pub loop-self-init : goal.loop-self-init
loop-self-init c =
    let v = c.self.view_is in
    let i = c.self.invariant in
    let short : length c.self.inside.held.items ≤ HELD = omega (arith, i.4, vec_len-length c.self.inside.held) in (
      (
        [],
        tt,
        sym (ap (λ (x : ReaderValue). x.left) v),
        sym (take_all HELD c.self.inside.held.items short) ∙ ap held_of (sym (append-nil c.self.inside.held.items)) ∙ ap (λ (x : ReaderValue). held_of (x.held ++ [])) v,
      ),
      i.0,
      i.1,
      refl,
      i.2,
      i.3,
      i.4,
    )

pub returns-then-byte-eq10 : goal.returns-then-byte-eq10
returns-then-byte-eq10 c =
    let r = c.loop-self.self-inside in let i = c.loop-self.invariant in let b = c.index-byte.result.now in
    let le : r.end ≤ length r.piece.items = omega (arith, i.2, vec_len-length r.piece) in
    let next = next_byte r.piece.items r.at r.end b (omega (arith, i.3)) le c.index-byte.ensures in
    let x = i.0 in
    (x.0, x.1, x.2 ∙ ap (λ ys. x.0 ++ ys) (next ∙ ap (λ n. n ∷ drop (r.at + 1) (take r.end r.piece.items)) c.if-byte-eq10.true), x.3)

pub returns : goal.returns
returns c =
    let r = c.loop-self.self-inside in let i = c.loop-self.invariant in
    let x = i.0 in
    let past : length (take r.end r.piece.items) ≤ r.at = omega (arith, i.3, c.loop-self-test.false, length-take r.end r.piece.items) in
    let empty : drop r.at (take r.end r.piece.items) ≡ [] = drop_all r.at (take r.end r.piece.items) past in
    let all : c.args.self.now.left ≡ x.0 = x.2 ∙ ap (λ ys. x.0 ++ ys) empty ∙ append-nil x.0 in
    (subst HasNoLf (sym all) x.1, empty, x.3 ∙ ap (λ q. held_of (c.args.self.now.held ++ q)) (sym all))

pub loop-self-preserved-then-len-lt-HELD : goal.loop-self-preserved-then-len-lt-HELD
loop-self-preserved-then-len-lt-HELD c =
    let r = c.loop-self.self-inside in let i = c.loop-self.invariant in let b = c.index-byte.result.now in
    let le : r.end ≤ length r.piece.items = omega (arith, i.2, vec_len-length r.piece) in
    let hl : vec_len r.held ≡ length r.held.items = vec_len-length r.held in
    let few : length r.held.items < HELD = omega (arith, hl, c.len.ensures, c.if-len-lt-HELD.true) in
    let next = next_byte r.piece.items r.at r.end b (omega (arith, i.3)) le c.index-byte.ensures in (
      (
          let x = i.0 in (
            x.0 ++ b ∷ [],
            HasNoLf-push x.0 b x.1 c.if-byte-eq10.false,
            x.2 ∙ ap (λ ys. x.0 ++ ys) next ∙ sym (append_assoc x.0 (b ∷ []) (drop (r.at + 1) (take r.end r.piece.items))),
            c.push_reserved.ensures.items ∙ take_push HELD r.held.items (c.args.self.now.held ++ x.0) b x.3 few ∙ ap held_of (append_assoc c.args.self.now.held x.0 (b ∷ [])),
          )),
      omega arith,
      omega (arith, i.2),
      i.3,
      omega (arith, i.4),
      omega (arith, i.5, c.push_reserved.ensures.capacity),
      omega (arith, i.6, c.push_reserved.ensures.len, c.if-len-lt-HELD.true, c.len.ensures),
    )

pub loop-self-preserved : goal.loop-self-preserved
loop-self-preserved c =
    let r = c.loop-self.self-inside in let i = c.loop-self.invariant in let b = c.index-byte.result.now in
    let le : r.end ≤ length r.piece.items = omega (arith, i.2, vec_len-length r.piece) in
    let hl : vec_len r.held ≡ length r.held.items = vec_len-length r.held in
    let many : HELD ≤ length r.held.items = omega (arith, hl, c.len.ensures, c.if-len-lt-HELD.false) in
    let next = next_byte r.piece.items r.at r.end b (omega (arith, i.3)) le c.index-byte.ensures in (
      (
          let x = i.0 in (
            x.0 ++ b ∷ [],
            HasNoLf-push x.0 b x.1 c.if-byte-eq10.false,
            x.2 ∙ ap (λ ys. x.0 ++ ys) next ∙ sym (append_assoc x.0 (b ∷ []) (drop (r.at + 1) (take r.end r.piece.items))),
            take_full HELD r.held.items (c.args.self.now.held ++ x.0) b x.3 many ∙ ap held_of (append_assoc c.args.self.now.held x.0 (b ∷ [])),
          )),
      omega arith,
      omega (arith, i.2),
      i.3,
      omega (arith, i.4),
      omega (arith, i.5),
      omega (arith, i.6),
    )
