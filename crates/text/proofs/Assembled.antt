-- What a text assembles to: commands that all pass 1 to 10, each of which a walk of the list finds again.
use Prim.Native.Nat.{ℕ, suc, ◌<◌}
use mathlib.Core.Path.{◌≡◌, refl, sym, ap, ◌∙◌}
use mathlib.Core.List.{List, [], ◌∷◌, ◌++◌, map}
use mathlib.Core.Bool.{cond}
use native.Mathlib.Omega.{arith}
use lib.ListN.{length, drop, length-append}
use lib.Seq.{drop_at}
use lib.Dec.{eqb}
use Rattle.wire.specs.declared.kinds.Command.{Command}
use Rattle.wire.specs.Judge.{plain, judge_code}
use Rattle.wire.specs.Kind.{parts_of}
use Rattle.wire.specs.Read.{Answer, said, read_code, read_of}
use Rattle.wire.specs.Write.{command_bytes, list_bytes}
use Rattle.wire.proofs.Lengths.{row_words, length_command}
use Rattle.wire.proofs.RoundTrip.{Held, span_back, read_back}
use Rattle.walk.specs.Walk.{rests}
use Rattle.walk.proofs.Rests.{rests_none, rests_more}
use Rattle.text.specs.Line.{line_of}
use Rattle.text.specs.Assemble.{commands_in, commands_of, bytes_in}
use Rattle.text.proofs.Allowed.{AllAllowed, line_fine}

all_append : (xs ys : List Command) → AllAllowed xs → AllAllowed ys → AllAllowed (xs ++ ys)
all_append [] ys first second = second
all_append (x ∷ xs) ys first second = (first.0, all_append xs ys first.1 second)

pub commands_allowed : (ls : List (List ℕ)) → AllAllowed (commands_in ls)
unfolding commands_in
commands_allowed [] = tt
commands_allowed (l ∷ ls) = all_append (line_of l).taken (commands_in ls) (line_fine l).allowed (commands_allowed ls)

-- The first command of a list that was made of commands: how far it reaches, and how it is read.
module _ (c : Command) (cs : List Command) where
  some_bytes : 0 < length (list_bytes (c ∷ cs))
  unfolding list_bytes
  some_bytes = omega (arith, length-append (command_bytes c) (list_bytes cs), length_command c, row_words (parts_of c.kind).form 0 0)

  pub rests_listed : rests (list_bytes (c ∷ cs)) ≡ list_bytes (c ∷ cs) ∷ rests (list_bytes cs)
  unfolding list_bytes
  rests_listed =
      rests_more (list_bytes (c ∷ cs)) some_bytes
      ∙ ap (λ n. list_bytes (c ∷ cs) ∷ rests (drop n (list_bytes (c ∷ cs)))) (span_back c (list_bytes cs))
      ∙ ap (λ s. list_bytes (c ∷ cs) ∷ rests s) (drop_at (command_bytes c) (list_bytes cs) (length (command_bytes c)) refl)

  module _ (held : Held c) (allowed : judge_code c ≡ 0) where
    pub reads_listed : read_of (list_bytes (c ∷ cs)) ≡ record { told = plain 0; taken = c ∷ [] }
    unfolding list_bytes
    reads_listed = read_back c (list_bytes cs) held allowed

    pub code_listed : read_code (list_bytes (c ∷ cs)) ≡ 0
    unfolding read_of
    code_listed = ap (λ (a : Answer). a.told.code) reads_listed

    pub said_listed : said (list_bytes (c ∷ cs)) ≡ c
    unfolding read_of
    said_listed = same (ap (λ code. cond (eqb code 0) (said (list_bytes (c ∷ cs)) ∷ []) []) (sym code_listed) ∙ ap (λ (a : Answer). a.taken) reads_listed)
      where
        same : {x y : Command} → x ∷ [] ≡ y ∷ [] → x ≡ y
        same e = cc

-- So the commands come back from their bytes, one by one.
pub rests-said : (cs : List Command) → AllAllowed cs → map said (rests (list_bytes cs)) ≡ cs
unfolding list_bytes
rests-said [] all = ap (map said) rests_none
rests-said (c ∷ cs) all =
    ap (map said) (rests_listed c cs)
    ∙ ap (λ d. d ∷ map said (rests (list_bytes cs))) (said_listed c cs all.0.0 all.0.1)
    ∙ ap (λ l. c ∷ l) (rests-said cs all.1)

pub rests_counted : (cs : List Command) → length (rests (list_bytes cs)) ≡ length cs
unfolding list_bytes
rests_counted [] = ap length rests_none
rests_counted (c ∷ cs) = ap length (rests_listed c cs) ∙ ap suc (rests_counted cs)

-- "Assembling gives commands that all pass 1 to 10": at each command of an assembled list.
abbrev pub AllRead : List (List ℕ) → Type 0
AllRead [] = Unit {0}
AllRead (r ∷ rs) = (read_code r ≡ 0) × AllRead rs

all_read : (cs : List Command) → AllAllowed cs → AllRead (rests (list_bytes cs))
unfolding list_bytes
all_read [] all = rw rests_none tt
all_read (c ∷ cs) all = rw (rests_listed c cs) (code_listed c cs all.0.0 all.0.1, all_read cs all.1)

pub assembled_passes : (text : List ℕ) → AllRead (rests (bytes_in text))
assembled_passes text = all_read (commands_of text) (commands_allowed _)
