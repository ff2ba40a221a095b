-- The rows that close an epoch after a recovery.
use Rattle.std.proofs.Common.{◌≡◌, ℕ, ◌+◌, pos, List, [], ◌∷◌, ◌++◌, length, map, refl, sym, ap, ◌∙◌, subst, arith}
use Rattle.std.specs.Prelude.{All}
use Rattle.std.proofs.lemmas.List.{append-nil}
use Rattle.std.proofs.lemmas.List.Elements.{All-nil}
use Rattle.tl_core.specs.Cores.{CoreValue, opened_after}
use Rattle.tl_core.specs.Reached.{IsReached}
use Rattle.tl_ledger.specs.declared.news.News.{News}
use Rattle.tl_ledger.specs.declared.schema.TheConstants.{PROCEDURE, CALL, TURN, REPLY}
use Rattle.tl_ledger.specs.Contents.{Contents}
use Rattle.tl_ledger.specs.News.{after_news}
use Rattle.tl_rows.specs.Rows.{procedure_form}
use Rattle.tl_store.specs.declared.stored.Stored.{Stored}
use Rattle.tl_store.specs.Stored.{AreStored}
use Rattle.tl_store.specs.Closing.{IsClosing}
use Rattle.tl_recover.specs.Later.{Later}
use Rattle.tl_rows.specs.Batches.{batch_of}
use Rattle.tl_store_laws.specs.Growing.{IsLedgerOf, IsSealOf, IsLastNewsOf}
use Rattle.tl_store_laws.proofs.Seal.{ledger_seals}

counted : (n m k : ℕ) → n ≡ m → pos (m + k) ≡ pos (n + k)
counted n m k same = ap (λ x. pos (x + k)) (sym same)

module _ (c : Contents) (s : Stored) (v w : CoreValue) (n : News) (old : IsLedgerOf c v) (later : Later v w) (same : w.procedures ≡ v.procedures) (reached : IsReached w) (stored : AreStored c s)
    (closing : IsClosing s w n) where
  none : length n.procedures.items ≡ 0
  none = ap length closing.procedures

  no_calls : length n.calls.items ≡ 0
  no_calls = ap length closing.calls

  seal_is : IsSealOf c w (batch_of n)
  seal_is = record {
    seal = closing.seal;
    seals = closing.seals;
    procedures = closing.counts.procedures ∙ ap pos (let m = stored.marked.procedures in let z = none in omega (arith, m, z));
    calls = closing.counts.calls ∙ ap pos (let m = stored.marked.calls in let z = no_calls in omega (arith, m, z));
    turns = closing.counts.all_turns ∙ counted (length (c TURN)) s.marks.turns (length n.turns.items) stored.marked.turns;
    replies = closing.counts.all_replies ∙ counted (length (c REPLY)) s.marks.replies (length n.replies.items) stored.marked.replies;
    records = closing.records;
  }

  last : IsLastNewsOf c v w (batch_of n)
  last = record {
    nodes = closing.nodes;
    new = [];
    procedures = ap (map procedure_form) closing.procedures;
    new_are = same ∙ sym (append-nil v.procedures);
    accepted = All-nil _;
    sealed = seal_is;
  }

  pub closed : IsLedgerOf (after_news c n) (opened_after w).seen
  closed = ledger_seals c v w (batch_of n) old later reached last
