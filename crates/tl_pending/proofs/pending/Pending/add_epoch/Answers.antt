use Rattle.std.proofs.Common.{◌≡◌, ◌∷◌, ◌∙◌, [], List, map, Option, option_map, refl, sym, ap, subst, rules, w64, of_z, to_z}
use Rattle.std.proofs.lemmas.List.{append-nil}
use Rattle.std.specs.Prelude.{Vec, ℤ}
use Rattle.std.specs.declared.alloc.Global.{Global}
use Rattle.tl_ledger.specs.declared.committing.Marks.{Marks}
use Rattle.tl_pending.specs.declared.pending.Pending.{Pending}
use Rattle.tl_pending.specs.Pendings.{column, more, added, counted, seal_after, HasSeal}
use Rattle.tl_rows.specs.Batches.{Batch}
use Rattle.tl_rows.specs.Changes.{Leads}
use Rattle.tl_pending.proofs.EpochLemmas.{of_news, learned}
use Rattle.tl_pending.proofs.pending.Pending.add_epoch.Goals as goal

pub returns-in_default : goal.returns-in_default
returns-in_default c =
    let old = c.args.self.now in
    let came = c.args.came in
    let epoch : to_z w64 (of_z w64 c.column-epoch.result) ≡ column old.rows.seals = search rules in
    let number : to_z w64 (of_z w64 c.column-number.result) ≡ column (added old.before old.rows.seals) = search rules in
    let claims = c.as_slice-claims.ensures.value in
    let procedures = c.in_ok-push_procedures.ensures in
    let calls = c.in_ok-push_calls.ensures in
    let turns = c.in_ok-push_turns.ensures in
    let replies = c.in_ok-push_replies.ensures in
    let rows : Batch = record { nodes = []; procedures = procedures.0; calls = calls.0; turns = turns.0; replies = replies.0; seals = []; records = [] } in
    let new : Pending = record {
      mark = old.mark;
      news = record {
        nodes = old.news.nodes;
        procedures = c.push_procedures.new.rows;
        calls = c.push_calls.new.rows;
        turns = c.push_turns.new.rows;
        replies = c.push_replies.new.rows;
        seals = old.news.seals;
        records = old.news.records;
      };
      before = old.before;
      rows = c.counted-self.result;
      records = old.records;
      claims = old.claims;
      index = c.learn.new.index;
      is_lost = old.is_lost;
    } in record {
      rows = rows;
      all = λ j. record {
        nodes = sym (append-nil old.news.nodes.items) j;
        procedures = procedures.1 j;
        calls = calls.1 j;
        turns = turns.1 j;
        replies = replies.1 j;
        seals = sym (append-nil old.news.seals.items) j;
        records = sym (append-nil old.news.records.items) j;
      };
      of = of_news old.claims.items old.rows.seals came rows epoch claims c.as_slice-2.ensures.value c.as_slice-3.ensures.value c.as_slice-4.ensures.value
          c.as_slice-5.ensures.value procedures.2 calls.2 turns.2 replies.2 refl;
      seal = subst (λ (o : Option (Vec (List ℤ) Global)). HasSeal (option_map (λ v. v.items) o) (counted came old.rows) rows old new) (sym c.in_default.is) (refl, refl, refl, c.counted-self.ensures);
      learns = learned old.index c.learn.new.index _ _ _ _ _ _ claims number c.as_slice.ensures.value c.in_ok-learn.ensures;
      before = refl;
      claims = refl;
      mark = refl;
      lost = refl;
    }

pub returns : goal.returns
returns c =
    let old = c.args.self.now in
    let came = c.args.came in
    let epoch : to_z w64 (of_z w64 c.column-epoch.result) ≡ column old.rows.seals = search rules in
    let number : to_z w64 (of_z w64 c.column-number.result) ≡ column (added old.before old.rows.seals) = search rules in
    let claims = c.as_slice-claims.ensures.value in
    let procedures = c.in_ok-push_procedures.ensures in
    let calls = c.in_ok-push_calls.ensures in
    let turns = c.in_ok-push_turns.ensures in
    let replies = c.in_ok-push_replies.ensures in
    let changes = c.in_ok-push_changes.ensures in
    let before = old.records.items in
    let now = c.in-Some.records.items in
    let leads : Leads before now changes.0 = subst (λ l. Leads before l changes.0) c.as_slice-6.ensures.value (subst (λ l. Leads l c.as_slice-6.result.now changes.0) c.as_slice-before.ensures.value changes.1) in
    let counts = c.counted-self.ensures in
    let sealed = c.more-self.ensures ∙ ap (λ (m : Marks). more m.seals 1) counts in
    let rows : Batch = record { nodes = []; procedures = procedures.0; calls = calls.0; turns = turns.0; replies = replies.0; seals = c.seal_after.result ∷ []; records = changes.0 } in
    let marks : Marks = record c.counted-self.result { seals = c.more-self.result } in
    let marked : marks ≡ record (counted came old.rows) { seals = more (counted came old.rows).seals 1 } = λ j. record {
      nodes = (counts j).nodes;
      procedures = (counts j).procedures;
      calls = (counts j).calls;
      turns = (counts j).turns;
      replies = (counts j).replies;
      seals = sealed j;
    } in
    let new : Pending = record {
      mark = old.mark;
      news = record {
        nodes = old.news.nodes;
        procedures = c.push_procedures.new.rows;
        calls = c.push_calls.new.rows;
        turns = c.push_turns.new.rows;
        replies = c.push_replies.new.rows;
        seals = c.push.new.self;
        records = c.push_changes.new.rows;
      };
      before = old.before;
      rows = marks;
      records = c.in-Some.records;
      claims = old.claims;
      index = c.learn.new.index;
      is_lost = old.is_lost;
    } in record {
      rows = rows;
      all = λ j. record {
        nodes = sym (append-nil old.news.nodes.items) j;
        procedures = procedures.1 j;
        calls = calls.1 j;
        turns = turns.1 j;
        replies = replies.1 j;
        seals = c.in_ok-push.ensures.items j;
        records = changes.2 j;
      };
      of = of_news old.claims.items old.rows.seals came rows epoch claims c.as_slice-2.ensures.value c.as_slice-3.ensures.value c.as_slice-4.ensures.value
          c.as_slice-5.ensures.value procedures.2 calls.2 turns.2 replies.2 refl;
      seal = subst (λ (o : Option (Vec (List ℤ) Global)). HasSeal (option_map (λ v. v.items) o) (counted came old.rows) rows old new) (sym c.in-Some.is)
          (ap (λ s. s ∷ []) (c.seal_after.ensures ∙ ap seal_after counts), leads, refl, marked);
      learns = learned old.index c.learn.new.index _ _ _ _ _ _ claims number c.as_slice.ensures.value c.in_ok-learn.ensures;
      before = refl;
      claims = refl;
      mark = refl;
      lost = refl;
    }
