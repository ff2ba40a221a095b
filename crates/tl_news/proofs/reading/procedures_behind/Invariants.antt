use Rattle.std.proofs.Common.{◌≡◌, ◌++◌, map, drop}
use Rattle.tl_json.specs.Procedures.{AreAccepted}
use Rattle.tl_news.specs.News.{named}
use Rattle.tl_news.proofs.reading.procedures_behind.Given as goal

abbrev pub invariant-loop-number : goal.invariant-loop-number
invariant-loop-number l = (map named l.found.items ++ drop l.number l.procedures ≡ drop l.first l.procedures) × AreAccepted (map named l.found.items)
