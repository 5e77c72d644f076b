use Rattle.std.proofs.Common.{refl, ◌∙◌}
use Rattle.ccr_script.specs.Grammar.{op_named}
use Rattle.ccr_script.proofs.Members.{by_letter}
use Rattle.ccr_script.proofs.grammar.ops_with_letter.Goals as goal

pub returns-in-97 : goal.returns-in-97
returns-in-97 c = λ text e. by_letter 97 text (e ∙ c.in-97.is)

pub returns-in-99 : goal.returns-in-99
returns-in-99 c = λ text e. by_letter 99 text (e ∙ c.in-99.is)

pub returns-in-100 : goal.returns-in-100
returns-in-100 c = λ text e. by_letter 100 text (e ∙ c.in-100.is)

pub returns-in-102 : goal.returns-in-102
returns-in-102 c = λ text e. by_letter 102 text (e ∙ c.in-102.is)

pub returns-in-108 : goal.returns-in-108
returns-in-108 c = λ text e. by_letter 108 text (e ∙ c.in-108.is)

pub returns-in-109 : goal.returns-in-109
returns-in-109 c = λ text e. by_letter 109 text (e ∙ c.in-109.is)

pub returns-in-112 : goal.returns-in-112
returns-in-112 c = λ text e. by_letter 112 text (e ∙ c.in-112.is)

pub returns-in-114 : goal.returns-in-114
returns-in-114 c = λ text e. by_letter 114 text (e ∙ c.in-114.is)

pub returns-in-115 : goal.returns-in-115
returns-in-115 c = λ text e. by_letter 115 text (e ∙ c.in-115.is)

pub returns-in-117 : goal.returns-in-117
returns-in-117 c = λ text e. by_letter 117 text (e ∙ c.in-117.is)

pub returns-in-119 : goal.returns-in-119
returns-in-119 c = λ text e. by_letter 119 text (e ∙ c.in-119.is)

pub returns-in_default : goal.returns-in_default
unfolding op_named
returns-in_default c = λ text e. refl
