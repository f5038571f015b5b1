-- The entries of a macro as the code walks them: place by place, up to where they end or the pool does.
use Prim.Native.Nat.{ℕ, suc, ◌+◌, ◌-◌, ◌≤◌, ◌<◌, min}
use mathlib.Core.Path.{◌≡◌}
use mathlib.Core.List.{List, [], ◌∷◌}
use native.Mathlib.Omega.{arith}
use native.Mathlib.Numerals.{add-one}
use lib.ListN.{length, get_or}
use lib.Seq.{drop-cons}
use Rattle.wire.specs.declared.kinds.Command.{Command}
use Rattle.store.specs.declared.Store.{Store}
use Rattle.store.specs.Words.{no_command, commands_in}
use Rattle.store.specs.Pool.{size_of, start_of, between, entries_of}
use Rattle.store.proofs.Entries.{length_commands}
use Rattle.store.proofs.Moves.{part_cut}

-- Entries that would go past the end of the pool end there.
pub walk_start : (ws : List ℕ) (start size end : ℕ) → length ws ≡ 576 → end ≡ min 192 (start + size)
    → between ws start size ≡ between ws start (end - start)
unfolding between
walk_start ws start size end whole is = part_cut (commands_in ws) 192 start size end (length_commands 192 ws whole) is

-- The entries from where macro m starts, as many as it has, are its entries.
pub entries_at : (s : Store) (m start size : ℕ) → start ≡ start_of s.counts s.closed s.opened m
    → size ≡ size_of s.counts s.closed s.opened m
    → between s.pool start size ≡ entries_of s m
unfolding entries_of
entries_at s m start size starts sized = rw (starts, sized)

-- A walk up to place `end` of the pool.
pub record Walk (ws : List ℕ) (end : ℕ) : Type 0 where
  pub whole : length ws ≡ 576
  pub inside : end ≤ 192

-- At place i, the entries from there on are the one that is read there and the rest; at the end there are none.
pub walk_next : (ws : List ℕ) (end i : ℕ) (e : Command) → Walk ws end → i < end → e ≡ get_or (commands_in ws) i no_command
    → between ws i (end - i) ≡ e ∷ between ws (i + 1) (end - (i + 1))
unfolding between
walk_next ws end i e walk below read =
    let size : end - i ≡ suc (end - suc i) = omega arith in
    let long : length (commands_in ws) ≡ 192 = length_commands 192 ws walk.whole in
    rw (size, drop-cons (commands_in ws) i no_command (omega (arith, walk.inside)), add-one, read)

pub walk_end : (ws : List ℕ) (end i : ℕ) → end ≤ i → between ws i (end - i) ≡ []
unfolding between
walk_end ws end i past =
    let none : end - i ≡ 0 = omega arith in
    rw none
