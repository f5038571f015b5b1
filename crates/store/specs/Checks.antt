-- Rows 11 to 19 of 01's codes and 25, which 02 (Q-2) puts behind 15, on a command that passed 8 to 10.
use Rattle.std.specs.Prelude.{ℕ, ◌<◌, List, [], ◌∷◌, Bool, false, not, ◌&&◌, ◌||◌, length, get_or, leb, ltb, eqb, Result}
use Rattle.std.proofs.Common.{arith}
use Rattle.words.specs.Codes.{Check, ◌when◌, first_of, answer_code}
use Rattle.wire.specs.declared.kinds.Command.{Command}
use Rattle.store.specs.declared.Store.{Store}
use Rattle.store.specs.declared.roles.Role.{Role}
use Rattle.store.specs.declared.checks.Denial.{Denial}
use Rattle.store.specs.Roles.{role_of, is_open, is_close, is_run, is_clear, number_of}
use Rattle.store.specs.Pool.{count_of, used_in}
use Rattle.store.specs.WrittenOut.{most_in, written_out}

-- The number of each denial.
abbrev pub code_of : Denial → ℕ
code_of Denial.NoneOpen = 11
code_of Denial.AnotherOpen = 12
code_of Denial.AlreadyClosed = 13
code_of Denial.NoEntries = 14
code_of Denial.TooLong = 15
code_of Denial.TooMany = 25
code_of Denial.NoneFree = 16
code_of Denial.NotBelow = 17
code_of Denial.NotClosed = 18
code_of Denial.Running = 19

-- No denial has code 0.
pub code_of_some : (denial : Denial) → 0 < code_of denial
code_of_some Denial.NoneOpen = omega arith
code_of_some Denial.AnotherOpen = omega arith
code_of_some Denial.AlreadyClosed = omega arith
code_of_some Denial.NoEntries = omega arith
code_of_some Denial.TooLong = omega arith
code_of_some Denial.TooMany = omega arith
code_of_some Denial.NoneFree = omega arith
code_of_some Denial.NotBelow = omega arith
code_of_some Denial.NotClosed = omega arith
code_of_some Denial.Running = omega arith

-- The code of a permission or a denial; 0 is permission.
abbrev pub told_permit : Result Unit Denial → ℕ
told_permit = answer_code code_of

-- "flag 1, or CLOSE, and no macro open"
abbrev pub row11 : Bool → Role → ℕ → Bool
row11 flag role opened = (flag || is_close role) && eqb opened 255

-- "OPEN while one is open"
abbrev pub row12 : Role → ℕ → Bool
row12 role opened = is_open role && not (eqb opened 255)

-- "OPEN of a closed macro"
abbrev pub row13 : Role → List Bool → Bool
row13 role closed = is_open role && get_or closed (number_of role) false

-- "CLOSE of a macro without entries"
abbrev pub row14 : Role → ℕ → Bool
row14 role count = is_close role && eqb count 0

-- "CLOSE where the written-out length exceeds 600"
abbrev pub row15 : Role → ℕ → Bool
row15 role seconds = is_close role && ltb 600 seconds

-- "25 at CLOSE where any second has more than 64 entries, after 15" (02, Q-2).
abbrev pub row25 : Role → ℕ → Bool
row25 role most = is_close role && ltb 64 most

-- "Code 16 now means that no entry is free" (02, Q-9).
abbrev pub row16 : Bool → ℕ → Bool
row16 flag used = flag && leb 192 used

-- "appended RUN whose number is not below the open macro's"
abbrev pub row17 : Bool → Role → ℕ → Bool
row17 flag role opened = flag && (is_run role && leb opened (number_of role))

-- "RUN (appended or executed) of a macro not closed"
abbrev pub row18 : Role → List Bool → Bool
row18 role closed = is_run role && not (get_or closed (number_of role) false)

-- "executed RUN, or CLEAR, while a macro runs"
abbrev pub row19 : Bool → Role → ℕ → Bool
row19 flag role running = ((not flag && is_run role) || is_clear role) && not (eqb running 255)

-- The rows in their order, on the numbers that they ask: how many entries the open macro has, how many seconds it lasts, the most entries that one of
-- them has, and how many entries are in use.
abbrev pub rows_for : Bool → Role → ℕ → List Bool → ℕ → ℕ → ℕ → ℕ → ℕ → List Check
rows_for flag role opened closed count seconds most used running =
    11 when row11 flag role opened
    ∷ 12 when row12 role opened
    ∷ 13 when row13 role closed
    ∷ 14 when row14 role count
    ∷ 15 when row15 role seconds
    ∷ 25 when row25 role most
    ∷ 16 when row16 flag used
    ∷ 17 when row17 flag role opened
    ∷ 18 when row18 role closed
    ∷ 19 when row19 flag role running
    ∷ []

abbrev pub checks_as : Store → Bool → Role → List Check
checks_as s flag role =
    let list = written_out s s.opened in
    rows_for flag role s.opened s.closed (count_of s s.opened) (length list) (most_in list) (used_in s) s.running

abbrev pub store_checks : Store → Command → List Check
store_checks s c = checks_as s c.flag (role_of c.kind)

unfoldable pub permit_code : Store → Command → ℕ
permit_code s c = first_of (store_checks s c)
