use Rattle.std.proofs.Common.{rules}
use Rattle.tl_syntax.specs.Tokens.{left_parenthesis, right_parenthesis, left_brace, right_brace, comma, semicolon, colon, dot, assign, plus, minus, times, divide, remainder, less_sign, greater_sign}
use Rattle.tl_syntax.proofs.words.short_sign.Goals as goal

pub returns-in-40 : goal.returns-in-40
returns-in-40 c = left_parenthesis (search rules)

pub returns-in-41 : goal.returns-in-41
returns-in-41 c = right_parenthesis (search rules)

pub returns-in-123 : goal.returns-in-123
returns-in-123 c = left_brace (search rules)

pub returns-in-125 : goal.returns-in-125
returns-in-125 c = right_brace (search rules)

pub returns-in-44 : goal.returns-in-44
returns-in-44 c = comma (search rules)

pub returns-in-59 : goal.returns-in-59
returns-in-59 c = semicolon (search rules)

pub returns-in-58 : goal.returns-in-58
returns-in-58 c = colon (search rules)

pub returns-in-46 : goal.returns-in-46
returns-in-46 c = dot (search rules)

pub returns-in-61 : goal.returns-in-61
returns-in-61 c = assign (search rules)

pub returns-in-43 : goal.returns-in-43
returns-in-43 c = plus (search rules)

pub returns-in-45 : goal.returns-in-45
returns-in-45 c = minus (search rules)

pub returns-in-42 : goal.returns-in-42
returns-in-42 c = times (search rules)

pub returns-in-47 : goal.returns-in-47
returns-in-47 c = divide (search rules)

pub returns-in-37 : goal.returns-in-37
returns-in-37 c = remainder (search rules)

pub returns-in-60 : goal.returns-in-60
returns-in-60 c = less_sign (search rules)

pub returns-in-62 : goal.returns-in-62
returns-in-62 c = greater_sign (search rules)
