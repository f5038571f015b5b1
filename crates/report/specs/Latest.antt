-- 02, Q-11, "last received number", "last failed number" and "its code": what some records at the front of a report say. Records are counted from 1, and
-- 0 stands for none.
use Rattle.std.specs.Prelude.{ℕ, zero, suc, ◌+◌, ◌*◌, List, cond, eqb}
use Rattle.words.specs.BigEndian.{byte_at, word_at}
use Rattle.report.specs.declared.Latest.{Latest}
use Rattle.report.specs.Record.{record_length}

-- "0 where there was none."
abbrev pub no_latest : Latest
no_latest = record { received = 0; failed = 0; code = 0 }

-- The number and the code that a record carries; 0 where there is none.
abbrev pub number_in : List ℕ → ℕ → ℕ
number_in report zero = 0
number_in report (suc k) = word_at report (k * record_length + 4)

abbrev pub code_in : List ℕ → ℕ → ℕ
code_in report zero = 0
code_in report (suc k) = byte_at report (k * record_length + 1)

-- The last of so many records whose code is not 0; 0 where there is none.
abbrev pub last_failed : List ℕ → ℕ → ℕ
last_failed report zero = zero
last_failed report (suc k) = cond (eqb (code_in report (suc k)) 0) (last_failed report k) (suc k)

-- Of so many records: the last one's number, and the last failed one's number and code.
unfoldable pub latest_of : List ℕ → ℕ → Latest
latest_of report count =
    record {
      received = number_in report count;
      failed = number_in report (last_failed report count);
      code = code_in report (last_failed report count);
    }
