-- What a second of a sound store hands over: at most 64 kinds, all of them plain and with arguments in range, so that the bench may execute them, and
-- all of them said again by their words.
use Prim.Native.Nat.{ℕ, ◌≤◌}
use mathlib.Core.Path.{◌≡◌, refl}
use mathlib.Core.List.{List, [], ◌∷◌}
use mathlib.Core.Bool.{Bool, true, false, cond, not}
use native.Mathlib.Omega.{arith}
use lib.ListN.{length, get_or, replicate}
use lib.Dec.{eqb}
use borrow.Author.Tests.{eqb-false}
use Rattle.wire.specs.declared.kinds.Kind.{Kind}
use Rattle.wire.specs.declared.kinds.Command.{Command}
use Rattle.wire.specs.declared.table.Form.{Form}
use Rattle.wire.specs.Table.{row_of}
use Rattle.wire.specs.Judge.{first_bad, judge_code}
use Rattle.store.specs.declared.Store.{Store}
use Rattle.store.specs.declared.roles.Role.{Role}
use Rattle.store.specs.Roles.{role_of}
use Rattle.store.specs.Pool.{is_closed, entries_of}
use Rattle.store.specs.WrittenOut.{flat, item_as, items_of, in_first, seconds, written_out}
use Rattle.store.specs.Effects.{group_of, kinds_in, next_group}
use Rattle.store.proofs.Clear.{Said, canonical_said, EachSaid, kinds_in_lem}
use Rattle.store.proofs.Flat.{Each}
use Rattle.store.proofs.Parts.{Kept}
pub use Rattle.store.proofs.Contents.{All}
use Rattle.store.proofs.Contents.{all_append, all_replicate, all_get_d, entries_each, Gives, flat_all}
use Rattle.store.proofs.WaitLaws.{most_reached}
use Rattle.store.proofs.Sound.{SoundEntry, Good, closed_small}

-- Only plain kinds, RUN and WAIT may be appended, and RUNs are replaced.
abbrev pub MayAppend : Role → Type 0
MayAppend Role.Plain = Unit
MayAppend (Role.Open m) = ⊥
MayAppend Role.Close = ⊥
MayAppend (Role.Run m) = Unit
MayAppend (Role.Wait n) = Unit
MayAppend Role.Stop = ⊥
MayAppend Role.Clear = ⊥

-- Row 9 forbids flag 1 on the other four.
never : (b : Bool) → ◌≡◌ {A = ℕ} (cond b 8 9) 0 → ⊥
never true h = omega arith
never false h = omega arith

appendable : (kind : Kind) → judge_code (record { flag = true; kind = kind }) ≡ 0 → MayAppend (role_of kind)
unfolding judge_code
appendable (Kind.ImgPwr mode) h = tt
appendable (Kind.ImgRegion x y) h = tt
appendable (Kind.ImgTrack time interval) h = tt
appendable (Kind.TrkAlg mode) h = tt
appendable (Kind.TrkLoop mode) h = tt
appendable (Kind.ImgImage time interval) h = tt
appendable (Kind.TrkGoal x y) h = tt
appendable Kind.TlmFlush h = tt
appendable (Kind.FlushAuto mode) h = tt
appendable (Kind.Open number) h = never (not (eqb (first_bad (row_of Form.Open) number 0) 0)) h
appendable Kind.Close h = never false h
appendable (Kind.Run number) h = tt
appendable (Kind.Wait seconds) h = tt
appendable Kind.Stop h = never false h
appendable Kind.Clear h = never false h

-- What stands in a list with its RUNs replaced: a plain kind or a WAIT, that passes rows 8 to 10 with flag 1.
abbrev PlainOrWait : Role → Type 0
PlainOrWait Role.Plain = Unit
PlainOrWait (Role.Open m) = ⊥
PlainOrWait Role.Close = ⊥
PlainOrWait (Role.Run m) = ⊥
PlainOrWait (Role.Wait n) = Unit
PlainOrWait Role.Stop = ⊥
PlainOrWait Role.Clear = ⊥

record Listed (kind : Kind) : Type 0 where
  role : PlainOrWait (role_of kind)
  allowed : judge_code (record { flag = true; kind = kind }) ≡ 0
  said : Said kind

-- What is handed over: a plain kind that passes rows 8 to 10, and that its words say again.
pub record Plain (kind : Kind) : Type 0 where
  pub role : role_of kind ≡ Role.Plain
  pub allowed : judge_code (record { flag = true; kind = kind }) ≡ 0
  pub said : Said kind

-- An entry that is read off three words is said again by its own; where it is sound and no RUN, it is listed as it is.
abbrev SaidAgain : Command → Type 0
SaidAgain e = e.flag ≡ true → Said e.kind

stands : (r : Role) → MayAppend r → Kept r → PlainOrWait r
stands Role.Plain may itself = tt
stands (Role.Open m) may itself = absurd may
stands Role.Close may itself = absurd may
stands (Role.Run m) may itself = absurd itself
stands (Role.Wait n) may itself = tt
stands Role.Stop may itself = absurd may
stands Role.Clear may itself = absurd may

entry_gives : (s : Store) (m : ℕ) (e : Command) → SoundEntry s m e → SaidAgain e → Gives Listed e
entry_gives s m e sound again itself =
    let judge : judge_code (record { flag = true; kind = e.kind }) ≡ 0 = rw sound.flagged at sound.allowed in
    record { role = stands (role_of e.kind) (appendable e.kind judge) itself; allowed = judge; said = again sound.flagged }

entries_give : (s : Store) (m : ℕ) (es : List Command) → Each (SoundEntry s m) es → Each SaidAgain es → Each (Gives Listed) es
entries_give s m [] sound again = tt
entries_give s m (e ∷ es) sound again = (entry_gives s m e sound.0 again.0, entries_give s m es sound.1 again.1)

closed_gives : (s : Store) → Good s → (m : ℕ) → is_closed s m ≡ true → Each (Gives Listed) (entries_of s m)
closed_gives s good m c =
    entries_give s m (entries_of s m)
    (good.sound.closed m (closed_small s good.shaped m c) c).entries
    (entries_each SaidAgain canonical_said s m)

flat_listed : (s : Store) → Good s → (m : ℕ) → is_closed s m ≡ true → All Listed (flat s m)
flat_listed s good m c = flat_all Listed s (closed_gives s good) m (closed_gives s good m c)

-- So in each second stand plain kinds.
first_plain : (kind : Kind) (gs : List (List Kind)) → Plain kind → All (All Plain) gs → All (All Plain) (in_first kind gs)
first_plain kind [] plain rest = ((plain, tt), tt)
first_plain kind (g ∷ gs) plain rest = ((plain, rest.0), rest.1)

seconds_plain : (ks : List Kind) → All Listed ks → All (All Plain) (seconds (items_of ks))
unfolding seconds
seconds_plain [] h = tt
seconds_plain (k ∷ ks) h = go (role_of k) refl h.0.role (seconds_plain ks h.1)
  where
    go : (r : Role) → role_of k ≡ r → PlainOrWait r → All (All Plain) (seconds (items_of ks)) → All (All Plain) (seconds (item_as r k ∷ items_of ks))
    go Role.Plain e role rest =
        first_plain k (seconds (items_of ks)) (record { role = e; allowed = h.0.allowed; said = h.0.said }) rest
    go (Role.Open m) e role rest = absurd role
    go Role.Close e role rest = absurd role
    go (Role.Run m) e role rest = absurd role
    go (Role.Wait n) e role rest = all_append (All Plain) (replicate n []) (seconds (items_of ks)) (all_replicate (All Plain) n [] tt) rest
    go Role.Stop e role rest = absurd role
    go Role.Clear e role rest = absurd role

-- Each second of the written-out list of a closed macro hands over plain kinds in range, and at most 64.
pub written_plainly : (s : Store) → Good s → (m : ℕ) → is_closed s m ≡ true → All (All Plain) (written_out s m)
unfolding written_out
written_plainly s good m c = seconds_plain (flat s m) (flat_listed s good m c)

pub written_few : (s : Store) → Good s → (m : ℕ) → is_closed s m ≡ true → (k : ℕ) → length (get_or (written_out s m) k []) ≤ 64
written_few s good m c k =
    let few = (good.sound.closed m (closed_small s good.shaped m c) c).few in
    omega (arith, few, most_reached (written_out s m) k)

-- So does the next second of a sound store.
handed_by : (P : List Kind → Type 0) (s : Store) → Good s → P []
    → ((m : ℕ) → is_closed s m ≡ true → (k : ℕ) → P (get_or (written_out s m) k [])) → P (next_group s)
handed_by P s good none each = go (eqb s.running 255) refl
  where
    go : (b : Bool) → eqb s.running 255 ≡ b → P (next_group s)
    go true e = rw e none
    go false e = rw e (each s.running (good.sound.running (eqb-false s.running 255 e)).closed _)

pub handed_plainly : (s : Store) → Good s → All Plain (next_group s)
handed_plainly s good =
    handed_by (All Plain) s good tt (λ m c k. all_get_d (All Plain) (written_out s m) k [] (written_plainly s good m c) tt)

pub handed_few : (s : Store) → Good s → length (next_group s) ≤ 64
handed_few s good = handed_by (λ g. length g ≤ 64) s good (omega arith) (written_few s good)

-- So the words of what is handed over say it again, and the group that has them is of these kinds.
each_said : (ks : List Kind) → All Plain ks → EachSaid ks
each_said [] h = tt
each_said (k ∷ ks) h = (h.0.said, each_said ks h.1)

pub handed_said : (s : Store) → Good s → EachSaid (next_group s)
handed_said s good = each_said (next_group s) (handed_plainly s good)

pub handed_kinds : (s : Store) → Good s → kinds_in (group_of (next_group s)) ≡ next_group s
handed_kinds s good = kinds_in_lem (next_group s) (handed_said s good)
