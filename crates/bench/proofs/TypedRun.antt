-- A run of a typed list, from what the code finds: what is found of it once the kit's list is short and the text was judged, what a refused one
-- leaves, and what one leaves that is carried out.
use Prim.Native.Nat.{ℕ, ◌≤◌, ◌<◌}
use mathlib.Core.Path.{◌≡◌, refl, sym, ap, ◌∙◌}
use mathlib.Core.List.{List, [], ◌∷◌}
use mathlib.Core.Bool.{Bool, true, false, cond, not, ◌||◌}
use lib.ListN.{length}
use lib.Dec.{eqb, ltb}
use borrow.Author.Tests.{lt-ltb, le-ltb}
use Rattle.words.specs.BigEndian.{written}
use Rattle.std.specs.Prelude.{Result, Ok, Err}
use Rattle.words.specs.Codes.{◌when◌, first_of}
use Rattle.report.specs.Record.{report_room}
use Rattle.wire.specs.Judge.{plain}
use Rattle.walk.specs.Walk.{rests}
use Rattle.text.specs.declared.findings.Finding.{Finding}
use Rattle.text.specs.declared.findings.Refusal.{Refusal as TextRefusal}
use Rattle.text.specs.Findings.{Outcome, finding, nothing, whole, first_found, translated_of}
use Rattle.text.specs.Assemble.{line_numbers, bytes_in, bad_line, text_findings, judged_text}
use Rattle.text.proofs.Found.{found_append, fault_code}
use Rattle.bench.specs.declared.Bench.{Bench}
use Rattle.bench.specs.declared.lists.Ran.{Ran}
use Rattle.bench.specs.declared.lists.RunRefusal.{RunRefusal}
use Rattle.bench.specs.declared.lists.typed.TypedRefusal.{TypedRefusal}
use Rattle.bench.specs.Status.{bench_sound, sound_check}
use Rattle.bench.specs.Run.{RunTold, ran_of}
use Rattle.bench.specs.Typed.{typed_found, typed_report, of_text, of_run, begun_finding, TypedTold, typed_ran_of, typed_for, typed_of, typed_room}
use Rattle.walk.proofs.Rests.{rests_512}
use Rattle.bench.proofs.InTurn.{typed_even}
use Rattle.bench.proofs.Sources.{text_commands, text_numbers}
use Rattle.bench.specs.Steps.{Even, judged_code, judged_run, judged_room}

-- What a typed run tells, from what a run of the same commands does; so of each refusal of that run.
abbrev typed_told : RunTold → TypedTold
typed_told t = record { found = finding (plain t.code) 0; bench = t.bench; kit = t.kit; pupil = t.pupil }

refused_told : (b : Bench) (refusal : RunRefusal) → typed_ran_of b (Err (of_run refusal)) ≡ typed_told (ran_of b (Err refusal))
refused_told b RunRefusal.ListTooLong = refl
refused_told b RunRefusal.RoomTooSmall = refl
refused_told b RunRefusal.Unsound = refl

-- What is found of the run behind a text that was judged good: 21, then 27.
abbrev run_findings : Bench → List ℕ → List Finding
run_findings b room = whole (21 when ltb (length room) report_room) ∷ whole (sound_check b) ∷ []

module _ (b : Bench) (kit text room : List ℕ) where
  -- A kit's list that is too long is found first.
  pub kit_long : 4096 < length kit → typed_found b kit text room ≡ finding (plain 20) 0
  unfolding typed_found first_found
  kit_long long = rw (lt-ltb 4096 (length kit) long) (go (ltb 32768 (length text)))
    where
      rest : List Finding
      rest = bad_line text ∷ whole (20 when ltb 4096 (length (bytes_in text))) ∷ run_findings b room

      go : (above : Bool) → first_found (whole (20 when (above || true)) ∷ rest) ≡ finding (plain 20) 0
      go true = refl
      go false = refl

  module _ (short : length kit ≤ 4096) where
    -- Otherwise the text's own findings come first.
    text_first : typed_found b kit text room
        ≡ cond (eqb (first_found (text_findings text)).told.code 0) (first_found (run_findings b room)) (first_found (text_findings text))
    unfolding typed_found
    text_first =
        rw (le-ltb 4096 (length kit) short)
        (ap (λ due. first_found (whole (20 when due) ∷ behind)) (alone (ltb 32768 (length text)))
        ∙ found_append (text_findings text) (run_findings b room))
      where
        behind : List Finding
        behind = bad_line text ∷ whole (20 when ltb 4096 (length (bytes_in text))) ∷ run_findings b room

        alone : (above : Bool) → (above || false) ≡ above
        alone true = refl
        alone false = refl

    -- A text that is refused refuses the run,
    pub text_refused : (found : Finding) → found ≡ (judged_text text).found → eqb found.told.code 0 ≡ false → typed_found b kit text room ≡ found
    unfolding judged_text
    text_refused found is other =
        let late : eqb (first_found (text_findings text)).told.code 0 ≡ false = rw is at other in
        text_first ∙ rw late (sym is)

    -- and behind a good one come 21 and 27, which are the run's own.
    judged_found : first_found (run_findings b room) ≡ finding (plain (judged_code b room)) 0
    unfolding first_found
    judged_found = go (ltb (length room) report_room) (bench_sound b)
      where
        go : (small sound : Bool)
            → first_found (whole (21 when small) ∷ whole (27 when not sound) ∷ []) ≡ finding (plain (first_of (21 when small ∷ 27 when not sound ∷ []))) 0
        go true true = refl
        go true false = refl
        go false true = refl
        go false false = refl

    module _ (good : first_found (text_findings text) ≡ nothing) where
      run_found : finding (plain (judged_code b room)) 0 ≡ typed_found b kit text room
      run_found = sym (text_first ∙ rw good judged_found)

      typed_like : typed_told (judged_run b kit (line_numbers text) (rests (bytes_in text)) room) ≡ typed_of b kit text room
      unfolding typed_of
      typed_like = ap (λ (f : Finding). typed_for f b kit text) run_found

      pub room_like : judged_room b kit (line_numbers text) (rests (bytes_in text)) room ≡ typed_room b kit text room
      unfolding typed_room
      room_like = ap (λ (f : Finding). cond (eqb f.told.code 0) (written (typed_report b kit text) room) room) run_found

      -- So it answers as that run does.
      pub run_passed : (ran : Ran) → ran_of b (Ok ran) ≡ judged_run b kit (line_numbers text) (rests (bytes_in text)) room
          → typed_ran_of b (Ok ran) ≡ typed_of b kit text room
      run_passed ran is = ap typed_told is ∙ typed_like

      pub run_refused : (refusal : RunRefusal) → ran_of b (Err refusal) ≡ judged_run b kit (line_numbers text) (rests (bytes_in text)) room
          → typed_ran_of b (Err (of_run refusal)) ≡ typed_of b kit text room
      run_refused refusal is = refused_told b refusal ∙ ap typed_told is ∙ typed_like

  -- What a run promises of its answer and of its room afterwards.
  abbrev pub Promise : Result Ran TypedRefusal → List ℕ → Type 0
  Promise r left = (typed_ran_of b r ≡ typed_of b kit text room) × (left ≡ typed_room b kit text room)

  -- A refused run: the bench and the room as they were, and counts of zero.
  refused_run : (refusal : TypedRefusal) → eqb (begun_finding refusal).told.code 0 ≡ false → typed_found b kit text room ≡ begun_finding refusal
      → Promise (Err refusal) room
  unfolding typed_of typed_room
  refused_run refusal other found = rw (found, other) (refl, refl)

  pub kit_refused : 4096 < length kit → Promise (Err TypedRefusal.TooLong) room
  kit_refused long = refused_run TypedRefusal.TooLong refl (kit_long long)

  pub text_refuses : length kit ≤ 4096 → (refusal : TextRefusal) → translated_of (Err refusal) ≡ judged_text text → Promise (Err (of_text refusal)) room
  text_refuses short TextRefusal.TooLong is =
      refused_run TypedRefusal.TooLong refl (text_refused short _ (ap (λ (o : Outcome). o.found) is) refl)
  text_refuses short (TextRefusal.BadLine number fault) is =
      let other = fault_code fault in
      refused_run (TypedRefusal.BadLine number fault) other (text_refused short _ (ap (λ (o : Outcome). o.found) is) other)

-- A text was judged good where its judgement found nothing.
pub judged_good : (text : List ℕ) (bytes : ℕ) → translated_of (Ok bytes) ≡ judged_text text → first_found (text_findings text) ≡ nothing
unfolding judged_text
judged_good text bytes is = sym (ap (λ (p : Outcome). p.found) is)

-- A text from its start gives the commands that its list says, with their lines' numbers.
module _ (text : List ℕ) {left : List ℕ} {number : ℕ} (is : (left ≡ text) × (number ≡ 0)) where
  pub lines_even : length (bytes_in text) ≤ 4096 → Even (text_numbers number left) (text_commands left)
  lines_even short = rw (is.0, is.1) (typed_even text, rests_512 (bytes_in text) short)

  module _ (b : Bench) (kit room : List ℕ) where
    pub told_same : {t : RunTold} → t ≡ judged_run b kit (text_numbers number left) (text_commands left) room
        → t ≡ judged_run b kit (line_numbers text) (rests (bytes_in text)) room
    told_same e = rw (is.0, is.1) at e

    pub room_same : {out : List ℕ} → out ≡ judged_room b kit (text_numbers number left) (text_commands left) room
        → out ≡ judged_room b kit (line_numbers text) (rests (bytes_in text)) room
    room_same e = rw (is.0, is.1) at e
