-- What a series of images does: that a time of 65535 never runs out, how many pictures come, and when, and that a series keeps the rules of a sound state.
use Rattle.std.proofs.Common.{◌≡◌, ℕ, zero, suc, ◌+◌, ◌-◌, ◌*◌, ◌/◌, ◌%◌, ◌<◌, ◌≤◌, min, Bool, true, false, cond, ◌&&◌, ◌||◌, eqb, leb, ◌⊎◌, sym, refl, ap, ◌∙◌, ap₂, inl, inr, mod-lt, suc-mul, add-mul, le_antisymm, lt_of_mul-lt-mul_right, eq-or-lt_of_le, div-add-mod', zero-mul, arith, ne_eqb, eqb-true, le-leb, leb-true}
use borrow.Author.Tests.{eqb-false}
use Rattle.words.proofs.Tests.{both}
use Rattle.camera.specs.declared.Series.{Series}
use Rattle.camera.specs.Series.{series_with, started_of, counted_of, fallen_of, time_after, second_of, next_holds}
use Rattle.camera.specs.Pictures.{counted_seconds, rounded_up, pictures_of, time_left, series_at}

-- A series after n seconds.
unfoldable pub series_after : ℕ → Series → Series
series_after zero s = s
series_after (suc n) s = second_of (series_after n s)

pub after_first : (n : ℕ) (s : Series) → series_after n (second_of s) ≡ series_after (suc n) s
unfolding series_after
after_first zero s = refl
after_first (suc n) s = ap second_of (after_first n s)

-- The two ways of a series with time left: an image is counted, or "next" falls.
abbrev counted : Series → Series
counted s = series_with s.time s.interval s.interval ((s.count + 1) % 65536)

abbrev uncounted : Series → Series
uncounted s = series_with s.time s.interval (s.next - 1) s.count

-- One second of a series that has time left: an image is counted where "next" is 1, and else "next" falls.
pub counting : (time interval count : ℕ) → 0 < time
    → second_of (series_with time interval 1 count) ≡ series_with (time_after time) interval interval ((count + 1) % 65536)
unfolding second_of
counting time interval count h = rw (ne_eqb time 0 (λ e. omega arith))

pub waiting : (time interval next count : ℕ) → 0 < time → 1 < next
    → second_of (series_with time interval next count) ≡ series_with (time_after time) interval (next - 1) count
unfolding second_of
waiting time interval next count h more = rw (ne_eqb time 0 (λ e. omega arith), ne_eqb (next - 1) 0 (λ e. omega arith))

-- One second of a series that has none.
none_left : (s : Series) → s.time ≡ 0 → second_of s ≡ s
unfolding second_of
none_left s e = rw e

-- "time falls by 1 unless it is 65535"; a time of 0 has nowhere to fall.
pub time_falls : (s : Series) → (second_of s).time ≡ time_after s.time
unfolding second_of
time_falls s = go (eqb s.time 0) (eqb (s.next - 1) 0) refl
  where
    go : (none one : Bool) → eqb s.time 0 ≡ none
        → (cond none s (fallen_of (cond one (counted s) (uncounted s)))).time ≡ time_after s.time
    go true one e = rw (eqb-true s.time 0 e)
    go false true e = refl
    go false false e = refl

-- A count has 16 bits, and stays so.
pub count_held : (s : Series) → s.count < 65536 → (second_of s).count < 65536
unfolding second_of
count_held s held = go (eqb s.time 0) (eqb (s.next - 1) 0)
  where
    go : (none one : Bool) → (cond none s (fallen_of (cond one (counted s) (uncounted s)))).count < 65536
    go true one = held
    go false true = omega arith
    go false false = held

-- "Letting a time of 65535 count down": it stays, for any number of seconds.
pub for_ever : (s : Series) (n : ℕ) → s.time ≡ 65535 → (series_after n s).time ≡ 65535
unfolding series_after
for_ever s zero e = e
for_ever s (suc n) e = time_falls (series_after n s) ∙ rw (for_ever s n e)

-- # How many pictures (02, Q-8)

-- Rounding up is meant: so many intervals cover the seconds, and one fewer would not.
module _ (n interval : ℕ) (some : 1 ≤ interval) where
  rounded : rounded_up n interval ≡ cond (eqb (n % interval) 0) (n / interval) (n / interval + 1)
  rounded = rw (ne_eqb interval 0 (λ e. omega arith))

  pub covers : (n ≤ rounded_up n interval * interval) × (rounded_up n interval * interval < n + interval)
  covers = rw rounded (go (eqb (n % interval) 0) refl)
    where
      whole : n / interval * interval + n % interval ≡ n
      whole = div-add-mod' n interval

      rest : n % interval < interval
      rest = mod-lt n some

      more : (n / interval + 1) * interval ≡ n / interval * interval + interval
      more = add-mul (n / interval) 1 interval ∙ omega arith

      go : (t : Bool) → eqb (n % interval) 0 ≡ t
          → (n ≤ cond t (n / interval) (n / interval + 1) * interval) × (cond t (n / interval) (n / interval + 1) * interval < n + interval)
      go true e =
          let none : n % interval ≡ 0 = eqb-true (n % interval) 0 e in
          (omega (arith, whole), omega (arith, whole))
      go false e =
          let some_left : n % interval ≡ 0 → ⊥ = eqb-false (n % interval) 0 e in
          (omega (arith, whole, rest, more), omega (arith, whole, rest, more))

  -- No other number does.
  pub rounds_to : (p : ℕ) → n ≤ p * interval → p * interval < n + interval → rounded_up n interval ≡ p
  rounds_to p enough least = le_antisymm (below (rounded_up n interval) p covers.1 enough) (below p (rounded_up n interval) least covers.0)
    where
      below : (a b : ℕ) → a * interval < n + interval → n ≤ b * interval → a ≤ b
      below a b few many =
          let more : suc b * interval ≡ b * interval + interval = suc-mul b interval in
          let less : a < suc b = lt_of_mul-lt-mul_right interval (omega (arith, more)) in
          omega arith

-- So pictures come in seconds 1, I + 1, 2 I + 1 ..: by second q I + r + 1 there are q + 1, as long as r is below I.
pub comes : (interval q r : ℕ) → r < interval → rounded_up (suc (q * interval + r)) interval ≡ suc q
comes interval q r within =
    let more : suc q * interval ≡ q * interval + interval = suc-mul q interval in
    rounds_to (suc (q * interval + r)) interval (omega arith) (suc q) (omega (arith, more)) (omega (arith, more))

-- And T divided by I, rounded up, are all that come, unless T is 65535.
pub in_all : (time interval k : ℕ) → time < 65535 → time ≤ k → pictures_of time interval k ≡ rounded_up time interval
in_all time interval k finite over =
    let all : min k time ≡ time = omega arith in
    rw (ne_eqb time 65535 (λ e. omega arith), all)

-- What is left of the time is all of it at first, and falls with each second.
left_whole : (time : ℕ) → time_left time 0 ≡ time
left_whole time = go (eqb time 65535) refl
  where
    go : (b : Bool) → eqb time 65535 ≡ b → cond b 65535 (time - 0) ≡ time
    go true e = sym (eqb-true time 65535 e)
    go false e = omega arith

left_falls : (time n : ℕ) → time ≤ 65535 → time_after (time_left time n) ≡ time_left time (suc n)
left_falls time n small = go (eqb time 65535) refl
  where
    go : (b : Bool) → eqb time 65535 ≡ b → time_after (cond b 65535 (time - n)) ≡ cond b 65535 (time - suc n)
    go true e = refl
    go false e =
        let fewer : time - n - 1 ≡ time - suc n = omega arith in
        rw (ne_eqb (time - n) 65535 (λ f. eqb-false time 65535 e (omega arith)), fewer)

-- While time is left every second counts; where none is, no more do, and none is left.
left_counts : (time n : ℕ) → 0 < time_left time n → (counted_seconds time n ≡ n) × (counted_seconds time (suc n) ≡ suc n)
left_counts time n = go (eqb time 65535)
  where
    go : (b : Bool) → 0 < cond b 65535 (time - n) → (cond b n (min n time) ≡ n) × (cond b (suc n) (min (suc n) time) ≡ suc n)
    go true more = (refl, refl)
    go false more = (omega arith, omega arith)

over_counts : (time n : ℕ) → time_left time n ≡ 0 → (time_left time (suc n) ≡ 0) × (counted_seconds time (suc n) ≡ counted_seconds time n)
over_counts time n = go (eqb time 65535)
  where
    go : (b : Bool) → cond b 65535 (time - n) ≡ 0 → (cond b 65535 (time - suc n) ≡ 0) × (cond b (suc n) (min (suc n) time) ≡ cond b n (min n time))
    go true none = absurd (omega arith)
    go false none = (omega arith, omega arith)

-- A series after so many seconds, said by the numbers of pictures and of seconds that count.
abbrev state : Series → ℕ → ℕ → ℕ → ℕ → Series
state s interval time p n = series_with time interval (p * interval + 1 - n) ((s.count + p) % 65536)

module _ (s : Series) (time interval : ℕ) (small : time ≤ 65535) (some : 1 ≤ interval) where
  -- One more second that counts: a picture comes where those before it lasted just till now.
  module _ (left n : ℕ) (more : 0 < left) where
    abbrev p : ℕ
    p = rounded_up n interval

    enough : n ≤ p * interval
    enough = (covers n interval some).0

    few : p * interval < n + interval
    few = (covers n interval some).1

    one_more : suc p * interval ≡ p * interval + interval
    one_more = suc-mul p interval

    abbrev GoesOn : Type 0
    GoesOn = second_of (state s interval left p n) ≡ state s interval (time_after left) (rounded_up (suc n) interval) (suc n)

    counts : p * interval ≡ n → GoesOn
    counts due =
        let now : p * interval + 1 - n ≡ 1 = omega arith in
        let then : rounded_up (suc n) interval ≡ suc p = rounds_to (suc n) interval some (suc p) (omega (arith, one_more)) (omega (arith, one_more)) in
        let later : suc p * interval + 1 - suc n ≡ interval = omega (arith, one_more) in
        let wraps : ((s.count + p) % 65536 + 1) % 65536 ≡ (s.count + suc p) % 65536 = omega arith in
        rw (now, then, later, counting left interval ((s.count + p) % 65536) more, wraps)

    waits : n < p * interval → GoesOn
    waits later =
        let same : rounded_up (suc n) interval ≡ p = rounds_to (suc n) interval some p (omega arith) (omega (arith, few)) in
        let fewer : p * interval + 1 - n - 1 ≡ p * interval + 1 - suc n = omega arith in
        rw (same, waiting left interval (p * interval + 1 - n) ((s.count + p) % 65536) more (omega arith), fewer)

    goes_on : GoesOn
    goes_on = go (eq-or-lt_of_le enough)
      where
        go : (n ≡ p * interval) ⊎ (n < p * interval) → GoesOn
        go (inl due) = counts (sym due)
        go (inr later) = waits later

  starts : s.count < 65536 → started_of s time interval ≡ series_at s time interval 0
  starts held =
      let none : counted_seconds time 0 ≡ 0 = none_yet (eqb time 65535) in
      let first : rounded_up 0 interval ≡ 0 = rounds_to 0 interval some 0 (omega arith) (omega (arith, zero-mul interval)) in
      let next : 0 * interval + 1 - 0 ≡ 1 = omega (arith, zero-mul interval) in
      let count : (s.count + 0) % 65536 ≡ s.count = omega arith in
      sym
      (ap₂ (λ left n. state s interval left (rounded_up n interval) n) (left_whole time) none
      ∙ ap (λ p. state s interval time p 0) first
      ∙ ap₂ (λ n c. series_with time interval n c) next count)
    where
      none_yet : (b : Bool) → cond b 0 (min 0 time) ≡ 0
      none_yet true = refl
      none_yet false = omega arith

  -- One second of the series.
  one_second : (k : ℕ) → second_of (series_at s time interval k) ≡ series_at s time interval (suc k)
  one_second k = go (eqb (time_left time k) 0) refl
    where
      go : (t : Bool) → eqb (time_left time k) 0 ≡ t → second_of (series_at s time interval k) ≡ series_at s time interval (suc k)
      go true e =
          let none : time_left time k ≡ 0 = eqb-true (time_left time k) 0 e in
          let over = over_counts time k none in
          none_left (series_at s time interval k) none
          ∙ ap₂ (λ left n. state s interval left (rounded_up n interval) n) (none ∙ sym over.0) (sym over.1)
      go false e =
          let some_left : time_left time k ≡ 0 → ⊥ = eqb-false (time_left time k) 0 e in
          let more : 0 < time_left time k = omega arith in
          let is = left_counts time k more in
          ap (λ n. second_of (state s interval (time_left time k) (rounded_up n interval) n)) is.0
          ∙ goes_on (time_left time k) k more
          ∙ ap₂ (λ left n. state s interval left (rounded_up n interval) n) (left_falls time k small) (sym is.1)

  -- "k seconds add the smaller of k and T (k alone where T is 65535), divided by I and rounded up, to the count, modulo 65536": the one fact about images
  -- and tracking images, an equation of the whole series. (A count of 16 bits, as every program's is.)
  pub pictures : s.count < 65536 → (k : ℕ) → series_after k (started_of s time interval) ≡ series_at s time interval k
  unfolding series_after
  pictures held zero = starts held
  pictures held (suc k) = ap second_of (pictures held k) ∙ one_second k

-- The rules that a sound state has for a series: an interval of 1 at least, and `next` from 1 to the interval wherever a time is above 0. A series that
-- is started with such an interval obeys them, and every second keeps them.
pub record GoodSeries (s : Series) : Type 0 where
  pub interval : 1 ≤ s.interval
  pub next : next_holds s ≡ true

-- A number from 1 to the interval will do as `next`, whatever the time is.
next_of : (time next interval : ℕ) → 1 ≤ next → next ≤ interval → (eqb time 0 || (leb 1 next && leb next interval)) ≡ true
next_of time next interval least most = go (eqb time 0)
  where
    go : (b : Bool) → (b || (leb 1 next && leb next interval)) ≡ true
    go true = refl
    go false = rw (le-leb 1 next least, le-leb next interval most)

pub started_good : (s : Series) (time interval : ℕ) → 1 ≤ interval → GoodSeries (started_of s time interval)
started_good s time interval h = record { interval = h; next = next_of time 1 interval (omega arith) h }

-- One second of a series with time above 0: `next` falls by 1, or starts anew at the interval.
counted_good : (s : Series) → GoodSeries s → (s.time ≡ 0 → ⊥) → GoodSeries (fallen_of (counted_of s))
counted_good s good more = go (eqb (s.next - 1) 0) refl
  where
    range : (leb 1 s.next && leb s.next s.interval) ≡ true
    range = rw (ne_eqb s.time 0 more) at good.next

    least : 1 ≤ s.next
    least = leb-true 1 s.next (both (leb 1 s.next) (leb s.next s.interval) range).0

    most : s.next ≤ s.interval
    most = leb-true s.next s.interval (both (leb 1 s.next) (leb s.next s.interval) range).1

    go : (b : Bool) → eqb (s.next - 1) 0 ≡ b → GoodSeries (fallen_of (counted_of s))
    go true e =
        rw e (record { interval = good.interval; next = next_of (time_after s.time) s.interval s.interval good.interval (omega arith) })
    go false e =
        let some : s.next - 1 ≡ 0 → ⊥ = eqb-false (s.next - 1) 0 e in
        let next = next_of (time_after s.time) (s.next - 1) s.interval (omega (arith, least)) (omega (arith, most)) in
        rw e (record { interval = good.interval; next = next })

pub series_second : (s : Series) → GoodSeries s → GoodSeries (second_of s)
unfolding second_of
series_second s good = go (eqb s.time 0) refl
  where
    go : (b : Bool) → eqb s.time 0 ≡ b → GoodSeries (second_of s)
    go true e = rw e good
    go false e = rw e (counted_good s good (eqb-false s.time 0 e))
