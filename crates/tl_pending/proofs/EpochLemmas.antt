-- What came of an epoch, as its parts were added.
use Rattle.std.proofs.Common.{◌≡◌, ◌∙◌, ap, refl, subst, ℕ, ℤ, List, [], map}
use Rattle.tl_keys.specs.declared.index.KeyIndex.{KeyIndex}
use Rattle.tl_news.specs.News.{asked}
use Rattle.tl_news.specs.declared.news.Answer.{Answer}
use Rattle.tl_news.specs.declared.news.EpochNews.{EpochNews}
use Rattle.tl_news.specs.declared.news.NewCall.{NewCall}
use Rattle.tl_news.specs.declared.news.NewProcedure.{NewProcedure}
use Rattle.tl_rows.specs.Batches.{Batch}
use Rattle.tl_rows.specs.Rows.{procedure_form, turn_form, reply_form}
use Rattle.tl_pending.specs.Claims.{ClaimValue, Learns}
use Rattle.tl_pending.specs.Pendings.{column, new_form, admitted_in, admitted_from, turn_forms, answer_form, AreOfNews}

-- rows that were made of copies of an epoch's lists are of the epoch
pub of_news : (claims : List ClaimValue) (epoch : ℕ) (came : EpochNews) (b : Batch) {claimed : List ClaimValue} {number : ℤ} {ps : List NewProcedure} {cs : List NewCall} {ts : List ℕ} {answers : List Answer}
    → number ≡ column epoch → claimed ≡ claims → ps ≡ came.procedures.items → cs ≡ came.calls.items → ts ≡ came.turns.items → answers ≡ came.answers.items
    → map procedure_form b.procedures ≡ map new_form ps → map admitted_in b.calls ≡ admitted_from claimed number came.first_call (map asked cs)
    → map turn_form b.turns ≡ turn_forms number ts → map reply_form b.replies ≡ map (answer_form number) answers → b.nodes ≡ []
    → AreOfNews claims epoch came b
of_news claims epoch came b is same ps-are cs-are ts-are answers-are procedures calls turns replies none = record {
  nodes = none;
  procedures = procedures ∙ ap (map new_form) ps-are;
  calls = calls ∙ (λ j. admitted_from (same j) (is j) came.first_call (map asked (cs-are j)));
  turns = turns ∙ (λ j. turn_forms (is j) (ts-are j));
  replies = replies ∙ (λ j. map (answer_form (is j)) (answers-are j));
}

-- so are the keys that were learned
pub learned : (old new : KeyIndex) (claimed claims : List ClaimValue) (number epoch : ℤ) (answers came : List Answer) → claimed ≡ claims → number ≡ epoch → answers ≡ came
    → Learns claimed number answers old new → Learns claims epoch came old new
learned old new claimed claims number epoch answers came same is are learns =
    subst (λ cs. Learns cs epoch came old new) same (subst (λ e. Learns claimed e came old new) is (subst (λ l. Learns claimed number l old new) are learns))
