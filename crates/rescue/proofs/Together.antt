-- "Kept and skipped bytes together are the whole input, each once": a list as its parts, which are the commands that a rescue keeps and the stretches that it
-- skips. `together` says it in one piece.
use Prim.Native.Nat.{ℕ, suc, ◌+◌, ◌-◌, ◌≤◌}
use mathlib.Core.Path.{◌≡◌, refl, sym, ap, subst, ◌∙◌}
use mathlib.Core.List.{List, [], ◌∷◌, ◌++◌, append_assoc, append-nil}
use mathlib.Core.Bool.{Bool, true, false, cond}
use native.Mathlib.Omega.{arith}
use lib.ListN.{length, take, drop, length-append, length-drop, take-append-drop}
use lib.Seq.{length-take-le, take-append_seam, drop-append_seam, take-add, drop-drop}
use lib.Dec.{eqb}
use borrow.Author.Tests.{ne_eqb, eqb-false}
use Rattle.wire.specs.Read.{span_of}
use Rattle.rescue.specs.Pieces.{passing, Piece, kept, skipped, pieces_of, kept_in, kept_of, Stretch, stretch_to, stretches_in, stretches_of}
use Rattle.rescue.specs.Whole.{Part, command, stretch, skipped_to, parts_in, parts_of, put_back, commands_in, skips_in, NonePasses, Placed, Apart, without}
use Rattle.rescue.proofs.Passing.{passing_eight}
use Rattle.rescue.proofs.Pieces.{pieces_none, pieces_kept, pieces_skipped, by_pieces}

-- The bytes of some pieces. Those of a list's pieces are the list.
abbrev pub bytes_in : List Piece → List ℕ
bytes_in [] = []
bytes_in (kept bs ∷ ps) = bs ++ bytes_in ps
bytes_in (skipped b ∷ ps) = b ∷ bytes_in ps

pub pieces_whole : (s : List ℕ) → bytes_in (pieces_of s) ≡ s
pieces_whole = by_pieces (λ s. bytes_in (pieces_of s) ≡ s) (rw pieces_none) kept_one skipped_one
  where
    kept_one : (s : List ℕ) → passing s ≡ true → bytes_in (pieces_of (drop (span_of s) s)) ≡ drop (span_of s) s → bytes_in (pieces_of s) ≡ s
    kept_one s is rest = ap bytes_in (pieces_kept s is) ∙ ap (λ l. take (span_of s) s ++ l) rest ∙ take-append-drop (span_of s) s

    skipped_one : (b : ℕ) (bs : List ℕ) → passing (b ∷ bs) ≡ false → bytes_in (pieces_of bs) ≡ bs → bytes_in (pieces_of (b ∷ bs)) ≡ b ∷ bs
    skipped_one b bs is rest = ap bytes_in (pieces_skipped b bs is) ∙ ap (λ l. b ∷ l) rest

-- A stretch in front of other parts: what is put back, which commands and which stretches there are.
back_behind : (end : ℕ) (run : List ℕ) (ps : List Part) → put_back (skipped_to end run ++ ps) ≡ run ++ put_back ps
unfolding put_back
back_behind end [] ps = refl
back_behind end (b ∷ bs) ps = refl

commands_behind : (end : ℕ) (run : List ℕ) (ps : List Part) → commands_in (skipped_to end run ++ ps) ≡ commands_in ps
unfolding commands_in
commands_behind end [] ps = refl
commands_behind end (b ∷ bs) ps = refl

skips_behind : (end : ℕ) (run : List ℕ) (ps : List Part) → skips_in (skipped_to end run ++ ps) ≡ stretch_to end (length run) ++ skips_in ps
unfolding skips_in
skips_behind end [] ps = refl
skips_behind end (b ∷ bs) ps = rw (ne_eqb (suc (length bs)) 0 (λ z. omega arith))

-- So of all parts from a place on, where some bytes right before it were skipped.
back_from : (at : ℕ) (run : List ℕ) (ps : List Piece) → put_back (parts_in at run ps) ≡ run ++ bytes_in ps
unfolding parts_in put_back
back_from at run [] = ap put_back (sym (append-nil (skipped_to at run))) ∙ back_behind at run []
back_from at run (kept bs ∷ ps) =
    back_behind at run (command bs ∷ parts_in (at + length bs) [] ps) ∙ ap (λ l. run ++ (bs ++ l)) (back_from (at + length bs) [] ps)
back_from at run (skipped b ∷ ps) = back_from (at + 1) (run ++ (b ∷ [])) ps ∙ append_assoc run (b ∷ []) (bytes_in ps)

commands_from : (at : ℕ) (run : List ℕ) (ps : List Piece) → commands_in (parts_in at run ps) ≡ kept_in ps
unfolding parts_in commands_in kept_in
commands_from at run [] = ap commands_in (sym (append-nil (skipped_to at run))) ∙ commands_behind at run []
commands_from at run (kept bs ∷ ps) =
    commands_behind at run (command bs ∷ parts_in (at + length bs) [] ps) ∙ ap (λ l. bs ++ l) (commands_from (at + length bs) [] ps)
commands_from at run (skipped b ∷ ps) = commands_from (at + 1) (run ++ (b ∷ [])) ps

skips_from : (at : ℕ) (run : List ℕ) (ps : List Piece) → skips_in (parts_in at run ps) ≡ stretches_in at (length run) ps
unfolding parts_in skips_in stretches_in
skips_from at run [] = ap skips_in (sym (append-nil (skipped_to at run))) ∙ skips_behind at run [] ∙ append-nil (stretch_to at (length run))
skips_from at run (kept bs ∷ ps) =
    skips_behind at run (command bs ∷ parts_in (at + length bs) [] ps) ∙ ap (λ l. stretch_to at (length run) ++ l) (skips_from (at + length bs) [] ps)
skips_from at run (skipped b ∷ ps) =
    skips_from (at + 1) (run ++ (b ∷ [])) ps ∙ ap (λ n. stretches_in (at + 1) n ps) (length-append run (b ∷ []))

-- One place more where no command passes.
none_more : (run : List ℕ) (b : ℕ) (bs : List ℕ) → NonePasses (run ++ (b ∷ bs)) run → passing (b ∷ bs) ≡ false
    → NonePasses (run ++ (b ∷ bs)) (run ++ (b ∷ []))
none_more [] b bs none is = (is, tt)
none_more (x ∷ xs) b bs none is = (none.0, none_more xs b bs none.1 is)

-- A stretch lies where it should in front of parts that do.
placed_behind : (at : ℕ) (run s : List ℕ) (ps : List Part) → length run ≤ at → NonePasses (run ++ s) run → Placed at s ps
    → Placed (at - length run) (run ++ s) (skipped_to at run ++ ps)
placed_behind at [] s ps within none rest = subst (λ n. Placed n s ps) (sym (all at)) rest
  where
    all : (n : ℕ) → n - 0 ≡ n
    all n = omega arith
placed_behind at (b ∷ bs) s ps within none rest =
    let run = b ∷ bs in
    let back : at - length run + length run ≡ at = omega arith in
    (refl, (none, (take-append_seam run s, rw (back, drop-append_seam run s) rest)))

-- All parts lie where they should.
placed_from : (s : List ℕ) (at : ℕ) (run : List ℕ) → length run ≤ at → NonePasses (run ++ s) run
    → Placed (at - length run) (run ++ s) (parts_in at run (pieces_of s))
unfolding parts_in
placed_from =
    by_pieces
    (λ s. (at : ℕ) (run : List ℕ) → length run ≤ at → NonePasses (run ++ s) run → Placed (at - length run) (run ++ s) (parts_in at run (pieces_of s)))
    none kept_one skipped_one
  where
    none : (at : ℕ) (run : List ℕ) → length run ≤ at → NonePasses (run ++ []) run → Placed (at - length run) (run ++ []) (parts_in at run (pieces_of []))
    none at run within fails =
        rw pieces_none (subst (λ ps. Placed (at - length run) (run ++ []) ps) (append-nil (skipped_to at run)) (placed_behind at run [] [] within fails refl))

    kept_one : (s : List ℕ) → passing s ≡ true
        → ((at : ℕ) (run : List ℕ) → length run ≤ at → NonePasses (run ++ drop (span_of s) s) run
        → Placed (at - length run) (run ++ drop (span_of s) s) (parts_in at run (pieces_of (drop (span_of s) s))))
        → (at : ℕ) (run : List ℕ) → length run ≤ at → NonePasses (run ++ s) run → Placed (at - length run) (run ++ s) (parts_in at run (pieces_of s))
    kept_one s is rest at run within fails = rw (pieces_kept s is) (placed_behind at run s (command own ∷ parts_in end [] ps) within fails here)
      where
        own : List ℕ
        own = take (span_of s) s

        end : ℕ
        end = at + length own

        ps : List Piece
        ps = pieces_of (drop (span_of s) s)

        long : length own ≡ span_of s
        long = length-take-le (span_of s) s (passing_eight s is).1

        all : end - 0 ≡ end
        all = omega arith

        here : Placed at s (command own ∷ parts_in end [] ps)
        here = (
          is,
          (
            ap (λ n. take n s) long,
            subst (λ n. Placed end (drop n s) (parts_in end [] ps)) (sym long)
                (subst (λ n. Placed n (drop (span_of s) s) (parts_in end [] ps)) all (rest end [] (omega arith) tt)),
          ),
        )

    skipped_one : (b : ℕ) (bs : List ℕ) → passing (b ∷ bs) ≡ false
        → ((at : ℕ) (run : List ℕ) → length run ≤ at → NonePasses (run ++ bs) run → Placed (at - length run) (run ++ bs) (parts_in at run (pieces_of bs)))
        → (at : ℕ) (run : List ℕ) → length run ≤ at → NonePasses (run ++ (b ∷ bs)) run
        → Placed (at - length run) (run ++ (b ∷ bs)) (parts_in at run (pieces_of (b ∷ bs)))
    skipped_one b bs is rest at run within fails =
        let more = run ++ (b ∷ []) in
        let long : length more ≡ length run + 1 = length-append run (b ∷ []) in
        let same : more ++ bs ≡ run ++ (b ∷ bs) = append_assoc run (b ∷ []) bs in
        let place : at + 1 - length more ≡ at - length run = omega arith in
        rw (pieces_skipped b bs is)
        (rw (place, same) at
        (rest (at + 1) more (omega arith) (subst (λ l. NonePasses l more) (sym same) (none_more run b bs fails is))))

-- A stretch that ends at a place, in front of others that lie apart: they begin behind it with a byte between.
apart_behind : (from end at run : ℕ) (xs : List Stretch) → from + run ≤ at → at ≤ end → Apart from end xs → Apart (at + 1) end xs
    → Apart from end (stretch_to at run ++ xs)
apart_behind from end at run xs within ends others behind = go (eqb run 0) refl
  where
    go : (b : Bool) → eqb run 0 ≡ b → Apart from end (cond b [] (record { start = at - run; size = run } ∷ []) ++ xs)
    go true is = others
    go false is =
        let some = eqb-false run 0 is in
        let place : at - run + run ≡ at = omega arith in
        (omega arith, (omega arith, (omega arith, rw place behind)))

apart_from : (s : List ℕ) (from end at run : ℕ) → from + run ≤ at → at + length s ≤ end → Apart from end (stretches_in at run (pieces_of s))
unfolding stretches_in
apart_from =
    by_pieces
    (λ s. (from end at run : ℕ) → from + run ≤ at → at + length s ≤ end → Apart from end (stretches_in at run (pieces_of s)))
    none kept_one skipped_one
  where
    none : (from end at run : ℕ) → from + run ≤ at → at + 0 ≤ end → Apart from end (stretches_in at run (pieces_of []))
    none from end at run within ends =
        rw pieces_none (subst (λ xs. Apart from end xs) (append-nil (stretch_to at run)) (apart_behind from end at run [] within (omega arith) tt tt))

    kept_one : (s : List ℕ) → passing s ≡ true
        → ((from end at run : ℕ) → from + run ≤ at → at + length (drop (span_of s) s) ≤ end
        → Apart from end (stretches_in at run (pieces_of (drop (span_of s) s))))
        → (from end at run : ℕ) → from + run ≤ at → at + length s ≤ end → Apart from end (stretches_in at run (pieces_of s))
    kept_one s is rest from end at run within ends =
        let own = take (span_of s) s in
        let eight = passing_eight s is in
        let long : length own ≡ span_of s = length-take-le (span_of s) s eight.1 in
        let left = length-drop (span_of s) s in
        let next = at + length own in
        rw (pieces_kept s is)
        (apart_behind from end at run (stretches_in next 0 (pieces_of (drop (span_of s) s))) within (omega arith)
        (rest from end next 0 (omega arith) (omega (arith, eight))) (rest (at + 1) end next 0 (omega (arith, eight)) (omega (arith, eight))))

    skipped_one : (b : ℕ) (bs : List ℕ) → passing (b ∷ bs) ≡ false
        → ((from end at run : ℕ) → from + run ≤ at → at + length bs ≤ end → Apart from end (stretches_in at run (pieces_of bs)))
        → (from end at run : ℕ) → from + run ≤ at → at + length (b ∷ bs) ≤ end → Apart from end (stretches_in at run (pieces_of (b ∷ bs)))
    skipped_one b bs is rest from end at run within ends =
        rw (pieces_skipped b bs is) (rest from end (at + 1) (run + 1) (omega arith) (omega arith))

-- The first of some stretches does not begin before a place.
abbrev FirstFrom : ℕ → List Stretch → Type 0
FirstFrom at [] = Unit
FirstFrom at (x ∷ xs) = at ≤ x.start

later : (at more : ℕ) (xs : List Stretch) → FirstFrom (at + more) xs → FirstFrom at xs
later at more [] h = tt
later at more (x ∷ xs) h = omega arith

first_from : (at : ℕ) (s : List ℕ) (ps : List Part) → Placed at s ps → FirstFrom at (skips_in ps)
unfolding skips_in
first_from at s [] placed = tt
first_from at s (command bs ∷ ps) placed = later at (length bs) (skips_in ps) (first_from (at + length bs) (drop (length bs) s) ps placed.1.1)
first_from at s (stretch start bs ∷ ps) placed = omega (arith, placed.0)

-- Bytes before the first stretch stay.
without_front : (at n : ℕ) (xs : List Stretch) (s : List ℕ) → FirstFrom (at + n) xs → without at xs s ≡ take n s ++ without (at + n) xs (drop n s)
unfolding without
without_front at n [] s first = sym (take-append-drop n s)
without_front at n (x ∷ xs) s first =
    let gap = x.start - (at + n) in
    let end = x.start + x.size in
    let before : x.start - at ≡ n + gap = omega arith in
    let behind : end - at ≡ n + (end - (at + n)) = omega arith in
    ap (λ k. take k s ++ without end xs (drop (end - at) s)) before
    ∙ ap (λ k. take (n + gap) s ++ without end xs (drop k s)) behind
    ∙ rw (take-add n gap s, ← drop-drop (end - (at + n)) n s) (append_assoc (take n s) (take gap (drop n s)) _)

-- So the bytes outside the stretches are the commands.
without_parts : (at : ℕ) (s : List ℕ) (ps : List Part) → Placed at s ps → without at (skips_in ps) s ≡ commands_in ps
unfolding skips_in commands_in without
without_parts at s [] placed = placed
without_parts at s (command bs ∷ ps) placed =
    let rest = placed.1.1 in
    without_front at (length bs) (skips_in ps) s (first_from (at + length bs) (drop (length bs) s) ps rest)
    ∙ rw placed.1.0 (ap (λ l. bs ++ l) (without_parts (at + length bs) (drop (length bs) s) ps rest))
without_parts at s (stretch start bs ∷ ps) placed =
    let none : start - at ≡ 0 = omega (arith, placed.0) in
    let size : start + length bs - at ≡ length bs = omega (arith, placed.0) in
    rw (none, size, placed.0) (without_parts (at + length bs) (drop (length bs) s) ps placed.1.1.1)

-- What a rescue makes of a list: putting the kept commands and the skipped stretches back in order gives the list; these commands and stretches are the
-- ones that it tells; each lies where it should, and only what passes is kept; no two stretches touch, their starts rise and none is empty; and the list
-- without its stretches is what was kept.
pub record Together (s : List ℕ) : Type 0 where
  pub back : put_back (parts_of s) ≡ s
  pub commands : commands_in (parts_of s) ≡ kept_of s
  pub stretches : skips_in (parts_of s) ≡ stretches_of s
  pub placed : Placed 0 s (parts_of s)
  pub apart : Apart 0 (length s) (stretches_of s)
  pub rest : without 0 (stretches_of s) s ≡ kept_of s

pub together : (s : List ℕ) → Together s
together s =
    let commands : commands_in (parts_of s) ≡ kept_of s = commands_from 0 [] (pieces_of s) in
    let stretches : skips_in (parts_of s) ≡ stretches_of s = skips_from 0 [] (pieces_of s) in
    let placed : Placed 0 s (parts_of s) = placed_from s 0 [] (omega arith) tt in
    record {
      back = back_from 0 [] (pieces_of s) ∙ pieces_whole s;
      commands = commands;
      stretches = stretches;
      placed = placed;
      apart = apart_from s 0 (length s) 0 0 (omega arith) (omega arith);
      rest = ap (λ xs. without 0 xs s) (sym stretches) ∙ without_parts 0 s (parts_of s) placed ∙ commands;
    }
