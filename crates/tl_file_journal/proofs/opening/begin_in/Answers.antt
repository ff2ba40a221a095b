use Rattle.std.proofs.Common.{◌≡◌, ◌∙◌, sym, ap, subst}
use Rattle.std.proofs.lemmas.Result.{IfOk-weaker}
use Rattle.sqlite_store.specs.FileStore.{view}
use Rattle.tl_ledger.specs.Contents.{Holds}
use Rattle.tl_store_file.specs.declared.opening.Found.TheVariants.{Store as There}
use Rattle.tl_file_journal.proofs.opening.begin_in.Goals as goal

pub returns-in_ok-make_in-in-Blank-Some-clause-begins : goal.returns-in_ok-make_in-in-Blank-Some-clause-begins
returns-in_ok-make_in-in-Blank-Some-clause-begins g c = λ clean. rw c.in-Blank-Some.is-1 (c.in_ok-make_in-in-Blank-Some.ensures.begins clean)

pub returns-in-Store-default-clause-resumes : goal.returns-in-Store-default-clause-resumes
returns-in-Store-default-clause-resumes g c =
    IfOk-weaker c.begin_on.result _ _
    (λ r resumes none clean rested is contents v held reached old.
    let both : There rested ≡ There c.in-Store-default.rested = sym is ∙ c.in-Store-default.is-0 in
    let same : rested ≡ c.in-Store-default.rested = cc in
    resumes none clean contents v (subst (λ x. Holds (view x.store).committed contents) same held) reached old)
    c.begin_on.ensures.resumes
