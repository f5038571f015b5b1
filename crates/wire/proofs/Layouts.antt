-- Laws of the table, of kinds and of layouts: an opcode finds its form, arguments come back from their words, and a kind from its parts.
use Prim.Native.Nat.{ℕ, ◌+◌, ◌^◌, ◌<◌}
use mathlib.Core.Path.{◌≡◌, refl, sym, ap, ◌∙◌}
use mathlib.Core.List.{List, [], ◌∷◌}
use mathlib.Core.Bool.{Bool, true, false, cond}
use native.Mathlib.Omega.{arith}
use lib.ListN.{length, get_or, take}
use lib.Dec.{eqb}
use lib.Ieee.{binary32, of_bits, to_bits}
use borrow.Author.Tests.{eqb-true}
use Rattle.wire.specs.declared.table.Form.{Form}
use Rattle.wire.specs.declared.table.Layout.{Layout}
use Rattle.std.specs.Prelude.{Option, Some, None}
use Rattle.wire.specs.Table.{row_of, guide_forms, macro_forms, look_up, macro_rule_of, rule_of}
use Rattle.wire.specs.Kind.{parts_with, parts_of, kind_of}
use Rattle.wire.specs.Read.{fields_with, fields_of}
use Rattle.wire.specs.Write.{packed_of}

-- How many words the arguments of a layout take.
abbrev pub arg_words : Layout → ℕ
arg_words Layout.Bare = 0
arg_words Layout.Byte = 1
arg_words Layout.Half = 1
arg_words Layout.Halves = 1
arg_words Layout.Singles = 2

pub length_packed : (layout : Layout) (first second : ℕ) → length (packed_of layout first second) ≡ arg_words layout
length_packed Layout.Bare first second = refl
length_packed Layout.Byte first second = refl
length_packed Layout.Half first second = refl
length_packed Layout.Halves first second = refl
length_packed Layout.Singles first second = refl

-- The table's lengths: the first word, the arguments' words, the last word.
pub form_words : (form : Form) → (row_of form).words ≡ arg_words (row_of form).layout + 2
form_words Form.ImgPwr = refl
form_words Form.ImgRegion = refl
form_words Form.ImgTrack = refl
form_words Form.TrkAlg = refl
form_words Form.TrkLoop = refl
form_words Form.ImgImage = refl
form_words Form.TrkGoal = refl
form_words Form.TlmFlush = refl
form_words Form.FlushAuto = refl
form_words Form.Open = refl
form_words Form.Close = refl
form_words Form.Run = refl
form_words Form.Wait = refl
form_words Form.Stop = refl
form_words Form.Clear = refl

-- The opcode of each form finds that form.
pub form_found : (form : Form) → rule_of (row_of form).opcode ≡ Some (form, (row_of form).words)
form_found Form.ImgPwr = refl
form_found Form.ImgRegion = refl
form_found Form.ImgTrack = refl
form_found Form.TrkAlg = refl
form_found Form.TrkLoop = refl
form_found Form.ImgImage = refl
form_found Form.TrkGoal = refl
form_found Form.TlmFlush = refl
form_found Form.FlushAuto = refl
form_found Form.Open = refl
form_found Form.Close = refl
form_found Form.Run = refl
form_found Form.Wait = refl
form_found Form.Stop = refl
form_found Form.Clear = refl

-- And a form that was found has that opcode and length in the table.
abbrev pub Named : ℕ → Form → ℕ → Type 0
Named opcode form n = (opcode ≡ (row_of form).opcode) × (n ≡ (row_of form).words)

found_in : (opcode : ℕ) (fs : List Form) (otherwise : Option (Form × ℕ)) (form : Form) (n : ℕ) → (otherwise ≡ Some (form, n) → Named opcode form n)
    → look_up opcode fs otherwise ≡ Some (form, n) → Named opcode form n
found_in opcode [] otherwise form n h e = h e
found_in opcode (f ∷ fs) otherwise form n h e = go (eqb opcode (row_of f).opcode) refl e (found_in opcode fs otherwise form n h)
  where
    go : (b : Bool) → eqb opcode (row_of f).opcode ≡ b → cond b (Some (f, (row_of f).words)) (look_up opcode fs otherwise) ≡ Some (form, n)
        → (look_up opcode fs otherwise ≡ Some (form, n) → Named opcode form n) → Named opcode form n
    go true is same more =
        let pair : ◌≡◌ {A = Form × ℕ} (f, (row_of f).words) (form, n) = cc in
        let this : f ≡ form = ap (λ p. p.0) pair in
        let long : (row_of f).words ≡ n = ap (λ p. p.1) pair in
        (eqb-true opcode (row_of f).opcode is ∙ ap (λ g. (row_of g).opcode) this, sym long ∙ ap (λ g. (row_of g).words) this)
    go false is same more = more same

pub found_form : (opcode : ℕ) (form : Form) (n : ℕ) → rule_of opcode ≡ Some (form, n) → Named opcode form n
found_form opcode form n e =
    found_in opcode guide_forms (macro_rule_of opcode) form n
    (found_in opcode macro_forms None form n (λ z. absurd (let no_form : ◌≡◌ {A = ℕ} 0 1 = cc in omega arith))) e

-- The bits of a single: those that the single read from them has.
abbrev pub IsBits : ℕ → Type 0
IsBits x = to_bits binary32 (of_bits binary32 x) ≡ x

-- Two numbers that the fields of a layout hold; 0 where there is no such field.
abbrev pub Within : Layout → ℕ → ℕ → Type 0
Within Layout.Bare first second = (first ≡ 0) × (second ≡ 0)
Within Layout.Byte first second = (first < 256) × (second ≡ 0)
Within Layout.Half first second = (first < 65536) × (second ≡ 0)
Within Layout.Halves first second = (first < 65536) × (second < 65536)
Within Layout.Singles first second = IsBits first × IsBits second

same_fields : {a b c d e f : ℕ} → a ≡ d → b ≡ e → c ≡ f → fields_with a b c ≡ fields_with d e f
same_fields p q r = rw (p, q, r)

-- Arguments come back from the words that they were packed into, whatever else stands where a layout has no word.
pub fields_packed : (layout : Layout) (first second one two : ℕ) → Within layout first second
    → fields_of layout (get_or (packed_of layout first second) 0 one) (get_or (packed_of layout first second) 1 two) ≡ fields_with first second 0
fields_packed Layout.Bare first second one two h = same_fields (sym h.0) (sym h.1) refl
fields_packed Layout.Byte first second one two h = same_fields (omega arith) (sym h.1) (omega arith)
fields_packed Layout.Half first second one two h = same_fields (omega arith) (sym h.1) (omega arith)
fields_packed Layout.Halves first second one two h = same_fields (omega arith) (omega arith) refl
fields_packed Layout.Singles first second one two h = refl

same_word : {a b : ℕ} → a ≡ b → ◌≡◌ {A = List ℕ} (a ∷ []) (b ∷ [])
same_word e = ap (λ w. w ∷ []) e

-- And words from the arguments that were taken from them, if their pad is 0.
pub packed_fields : (layout : Layout) (one two : ℕ) → one < 2 ^ 32 → (fields_of layout one two).pad ≡ 0
    → packed_of layout (fields_of layout one two).first (fields_of layout one two).second ≡ take (arg_words layout) (one ∷ two ∷ [])
packed_fields Layout.Bare one two h no_pad = refl
packed_fields Layout.Byte one two h no_pad = same_word (omega arith)
packed_fields Layout.Half one two h no_pad = same_word (omega arith)
packed_fields Layout.Halves one two h no_pad = same_word (omega arith)
packed_fields Layout.Singles one two h no_pad = refl

-- Where a layout is two singles, the words are their bits.
abbrev pub BitsIn : Layout → ℕ → ℕ → Type 0
BitsIn Layout.Bare one two = Unit
BitsIn Layout.Byte one two = Unit
BitsIn Layout.Half one two = Unit
BitsIn Layout.Halves one two = Unit
BitsIn Layout.Singles one two = IsBits one × IsBits two

-- What was taken from words fits the fields.
pub fields_within : (layout : Layout) (one two : ℕ) → one < 2 ^ 32 → BitsIn layout one two
    → Within layout (fields_of layout one two).first (fields_of layout one two).second
fields_within Layout.Bare one two h bits = (refl, refl)
fields_within Layout.Byte one two h bits = (omega arith, refl)
fields_within Layout.Half one two h bits = (omega arith, refl)
fields_within Layout.Halves one two h bits = (omega arith, omega arith)
fields_within Layout.Singles one two h bits = bits

-- The parts of a kind that was put together are those that it was put together from.
same_parts : (form : Form) {a b c d : ℕ} → a ≡ c → b ≡ d → parts_with form a b ≡ parts_with form c d
same_parts form p q = rw (p, q)

pub parts_kind : (form : Form) (first second : ℕ) → Within (row_of form).layout first second
    → parts_of (kind_of form first second) ≡ parts_with form first second
parts_kind Form.ImgPwr first second h = same_parts Form.ImgPwr (omega arith) (sym h.1)
parts_kind Form.ImgRegion first second h = same_parts Form.ImgRegion (omega arith) (omega arith)
parts_kind Form.ImgTrack first second h = same_parts Form.ImgTrack (omega arith) (omega arith)
parts_kind Form.TrkAlg first second h = same_parts Form.TrkAlg (omega arith) (sym h.1)
parts_kind Form.TrkLoop first second h = same_parts Form.TrkLoop (omega arith) (sym h.1)
parts_kind Form.ImgImage first second h = same_parts Form.ImgImage (omega arith) (omega arith)
parts_kind Form.TrkGoal first second h = same_parts Form.TrkGoal h.0 h.1
parts_kind Form.TlmFlush first second h = same_parts Form.TlmFlush (sym h.0) (sym h.1)
parts_kind Form.FlushAuto first second h = same_parts Form.FlushAuto (omega arith) (sym h.1)
parts_kind Form.Open first second h = same_parts Form.Open (omega arith) (sym h.1)
parts_kind Form.Close first second h = same_parts Form.Close (sym h.0) (sym h.1)
parts_kind Form.Run first second h = same_parts Form.Run (omega arith) (sym h.1)
parts_kind Form.Wait first second h = same_parts Form.Wait (omega arith) (sym h.1)
parts_kind Form.Stop first second h = same_parts Form.Stop (sym h.0) (sym h.1)
parts_kind Form.Clear first second h = same_parts Form.Clear (sym h.0) (sym h.1)
