-- What has happened in a table since it was last read.
use Rattle.std.specs.Prelude.{ℕ, ◌<◌, ◌≡◌, Bool, true, false, List, [], ◌∷◌, ◌++◌, map, drop, length, reverse, get_or, Option, Some, None, option_map, if◌then◌else◌, string_bytes, ℤ}
use Rattle.std.specs.List.{filter_map}
use Rattle.std.specs.Arc.{arc_value}
use Rattle.tl_tree.specs.Records.{Records}
use Rattle.tl_tree_locking.specs.declared.event.Event.{Event}
use Rattle.tl_tree_locking.specs.declared.event.Event.TheVariants.{Admit, Lock, Free, Done}
use Rattle.tl_tree_locking.specs.History.{caller, is_done, records_now}
use Rattle.tl_tree_locking.specs.World.{reply_of}
use Rattle.tl_procedures.specs.Names.{Named}
use Rattle.tl_core.specs.Cores.{CallValue, CoreValue, world_of}
use Rattle.tl_core.specs.Entries.{procedure_at}
use Rattle.tl_core.specs.Reached.{IsReached}
use Rattle.tl_json.specs.Procedures.{AreAccepted}
use Rattle.tl_table.specs.Epochs.{EpochValue, seen}
use Rattle.tl_table.specs.Tables.{TableValue}
use Rattle.tl_news.specs.declared.mark.Place.{Place}
use Rattle.tl_news.specs.declared.mark.Mark.{Mark}
use Rattle.tl_news.specs.declared.news.Answer.{Answer}
use Rattle.tl_news.specs.declared.news.NewCall.{NewCall}
use Rattle.tl_news.specs.declared.news.NewProcedure.{NewProcedure}
use Rattle.tl_news.specs.declared.news.EpochNews.{EpochNews}

-- a call that was asked for: the name of its procedure, its arguments, and the session that asked
pub record Asked : Type 0 where
  pub name : List ℕ
  pub args : List ℤ
  pub session : ℕ

-- The news of an epoch: new procedures, the number of the first new call, the new calls, the caller of each new
-- event, and the new replies. If the epoch is over, also the records at its end.
pub record NewsValue : Type 0 where
  pub epoch : ℕ
  pub procedures : List Named
  pub first_call : ℕ
  pub calls : List Asked
  pub turns : List ℕ
  pub answers : List Answer
  pub records : Option Records

-- ---- the same of the values that a program has

abbrev pub named : NewProcedure → Named
named p = record { name = string_bytes p.name; code = arc_value p.procedure }

abbrev pub asked : NewCall → Asked
asked c = record { name = string_bytes c.request.name; args = c.request.args.items; session = c.session }

abbrev pub news_value : EpochNews → NewsValue
news_value n = record {
  epoch = n.epoch;
  procedures = map named n.procedures.items;
  first_call = n.first_call;
  calls = map asked n.calls.items;
  turns = n.turns.items;
  answers = n.answers.items;
  records = option_map (λ v. v.items) n.records;
}

-- each of the new procedures has an accepted code
abbrev pub HasAccepted : EpochNews → Type 0
HasAccepted n = AreAccepted (map named n.procedures.items)

-- ---- of an epoch

-- its events after the first n, the earliest first
abbrev pub events_from : ℕ → CoreValue → List Event
events_from n v = drop n (reverse v.past)

-- these calls, each with its session
abbrev pub calls_of : CoreValue → List ℕ → List CallValue → List Asked
calls_of v owners [] = []
calls_of v [] (call ∷ calls) = []
calls_of v (session ∷ owners) (call ∷ calls) =
    record { name = (procedure_at v call.procedure).name; args = call.args; session = session } ∷ calls_of v owners calls

-- the reply of a call and its session, at the event of its end
abbrev pub answer_at : CoreValue → List ℕ → Event → Option Answer
answer_at v owners (Done c) = Some (record { call = c; session = get_or owners c 0; reply = reply_of (world_of v) c })
answer_at v owners (Admit c) = None
answer_at v owners (Lock x c found) = None
answer_at v owners (Free x c left) = None

-- if the event is an end, its call was admitted and is done
abbrev pub IsEnd : CoreValue → Event → Type 0
IsEnd v (Done c) = (c < length v.calls) × (is_done c v.past ≡ true)
IsEnd v (Admit c) = Unit {0}
IsEnd v (Lock x c found) = Unit {0}
IsEnd v (Free x c left) = Unit {0}

-- the news of an epoch with this number and core after the given place, with the sessions of its calls; `is_over` says whether the epoch is over
abbrev pub news_behind : Place → ℕ → CoreValue → List ℕ → Bool → NewsValue
news_behind place number v owners is_over = record {
  epoch = number;
  procedures = drop place.procedures v.procedures;
  first_call = place.calls;
  calls = calls_of v (drop place.calls owners) (drop place.calls v.calls);
  turns = map caller (events_from place.events v);
  answers = filter_map (answer_at v owners) (events_from place.events v);
  records = if is_over then Some (records_now v.past v.opening) else None;
}

-- the place after everything so far
abbrev pub end_of : CoreValue → Place
end_of v = record { procedures = length v.procedures; calls = length v.calls; events = length v.past }

-- the place at the start of the next epoch, which has the same procedures
abbrev pub start_after : CoreValue → Place
start_after v = record { procedures = length v.procedures; calls = 0; events = 0 }

-- ---- of a table

-- the news of these finished epochs, the first one from the given place on, and then of the current epoch
abbrev pub news_through : Bool → Place → List EpochValue → EpochValue → List NewsValue
news_through is_over place [] current = news_behind place current.number (seen current) current.owners is_over ∷ []
news_through is_over place (e ∷ es) current =
    news_behind place e.number (seen e) e.owners true ∷ news_through is_over (start_after (seen e)) es current

-- the epochs of a table that weren't read to their ends before the mark
abbrev pub unread : TableValue → Mark → List EpochValue
unread t m = drop m.epochs t.sealed ++ t.current ∷ []

-- The epoch's core was reached as every core is, and each of its calls has a session.
pub record IsWhole (e : EpochValue) : Type 0 where
  pub reached : IsReached (seen e)
  pub owned : length e.owners ≡ length (seen e).calls

-- the news of a table since the mark; `is_over` says whether the current epoch is over too
abbrev pub news_since : Bool → TableValue → Mark → List NewsValue
news_since is_over t m = news_through is_over m.place (drop m.epochs t.sealed) t.current

-- the mark after everything is read; if the current epoch is over, it is in the next table, which has the same procedures
abbrev pub mark_after : Bool → TableValue → Mark
mark_after false t = record { epochs = length t.sealed; place = end_of (seen t.current) }
mark_after true t = record { epochs = 0; place = start_after (seen t.current) }
