-- Steps of the code: what judging items answers. No public promise needs it.
use Rattle.std.specs.Prelude.{ℕ, Result}
use Rattle.words.specs.Codes.{answer_code}
use Rattle.housekeeping.specs.declared.Refusal.{Refusal}
use Rattle.housekeeping.specs.Answers.{code_of}

-- `judge_item`, `judge_items`: 0, or the code of a refusal.
abbrev pub judged_code : Result Unit Refusal → ℕ
judged_code = answer_code code_of
