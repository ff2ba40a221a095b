-- The faults of a text, as numbers.
use Rattle.std.specs.Prelude.{ℕ}
use Rattle.tl_syntax.specs.declared.fault.Wrong.{Wrong}
use Rattle.tl_syntax.specs.declared.fault.Wrong.TheVariants as W

abbrev pub number_of : Wrong → ℕ
number_of W.Character = 270
number_of W.Number = 271
number_of W.LongCode = 271
number_of W.LongName = 272
number_of W.Misplaced = 273
number_of W.NoSemicolon = 273
number_of W.NoBlock = 273
number_of W.Unclosed = 273
number_of W.NoElse = 273
number_of W.NoBound = 273
number_of W.PartReturns = 273
number_of W.PartName = 273
number_of W.RestOperand = 273
number_of W.CodeForm = 273
number_of W.TooDeep = 274
number_of W.Blocks = 274
number_of W.PartDepth = 274
number_of W.Unknown = 275
number_of W.Twice = 276
number_of W.NoNumber = 277
number_of W.NoCondition = 277
number_of W.NoValue = 277
number_of W.NoNode = 277
number_of W.SameNode = 277
number_of W.NoPart = 277
number_of W.FieldNumber = 278
number_of W.Argument = 279
number_of W.Arguments = 279
number_of W.FoundNames = 279
number_of W.Turns = 280
number_of W.NotHeld = 281
number_of W.EnteredAgain = 282
number_of W.LoopChanges = 283
number_of W.NoTurn = 284
number_of W.OtherParent = 285
number_of W.ElseEnds = 286
number_of W.Unreached = 287
number_of W.NoLoop = 288
number_of W.NoSearch = 288
number_of W.WrittenTwice = 298
number_of W.WrittenBefore = 299
number_of W.Values = 291
number_of W.Nodes = 292
number_of W.LoopDepth = 293
number_of W.PartSize = 294
number_of W.Statements = 294
