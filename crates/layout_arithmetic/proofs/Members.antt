-- Members at their places: from what the functions on numbers answered to the definition's answer. Assumes nothing.
use mathlib.Core.Path.{◌≡◌, refl}
use mathlib.Core.Option as maybe
use Prim.Native.Nat.{ℕ, zero, suc, ◌+◌, ◌*◌, ◌/◌, ◌^◌, ◌≤◌, ◌<◌, max}
use native.Mathlib.Omega.{arith}
use borrow.Author.Tests.{lt-ltb, le-ltb}
use Rattle.definition.specs.Answer.{Answer}
use Rattle.definition.specs.Table.{Member}
use Rattle.definition.specs.Layout.{within, round_up, located, advanced, plain_member, zero_field, field_start, field_at, bit_field, in_struct, in_union, widest_with}
use Rattle.definition.specs.Layout as layout
use Rattle.layout_arithmetic.specs.Outcome.{laid_of, exact, placed}
use Rattle.layout_arithmetic.specs.declared.Laid.{Laid}
use Rattle.std.specs.Prelude.{Option, Some, None}
use Rattle.layout_arithmetic.proofs.RoundUp.{whole_parts, unit_start, unit_in_parts}
use Rattle.layout_arithmetic.proofs.Told.{goes_on, stops}

-- an alignment of 0 counts 1, and so does a unit of 0 bytes
module _ (e : Member) (align : ℕ) (l : layout.Laid) where
  abbrev a : ℕ
  a = max align 1

  -- bits, where a member of alignment a may begin, and the byte there
  abbrev start : ℕ
  start = round_up l.taken (8 * a)

  pub start-bits : 8 * (start / 8) ≡ start
  start-bits = whole_parts l.taken 8 a (omega arith) (omega arith)

  -- ---- plain members

  plain_end : (s : ℕ) → 8 * (start / 8 + s) ≡ start + 8 * s
  plain_end s = omega (arith, start-bits)

  pub plain_at : (s place end : ℕ) (l' : Laid) → place ≡ start / 8 → end ≡ 8 * (place + s) → end < 2 ^ 64 → laid_of l' ≡ advanced l end a
      → placed (Some (record { offset = place; bit = 0; laid = l' })) e ≡ plain_member e s a l
  unfolding placed plain_member within
  plain_at s place end l' x q h m = let f : end ≡ start + 8 * s = omega (arith, plain_end s) in goes_on (2 ^ 64) e.offset f _ h (rw (x, m))

  pub plain_out : (s : ℕ) → 2 ^ 64 ≤ 8 * (start / 8 + s) → placed None e ≡ plain_member e s a l
  unfolding placed plain_member within
  plain_out s h = stops (2 ^ 64) e.offset (plain_end s) _ h

  -- ---- fields of width 0

  pub zero-at : (place end : ℕ) (l' : Laid) → place ≡ start / 8 → end ≡ 8 * (place + 0) → end < 2 ^ 64 → laid_of l' ≡ advanced l end a
      → placed (Some (record { offset = place; bit = end; laid = l' })) e ≡ zero_field e a l
  unfolding placed zero_field within
  zero-at place end l' x q h m = let f : end ≡ start = omega (arith, start-bits) in goes_on (2 ^ 64) e.offset f _ h (rw (x, ← f, m))

  pub zero-out : 2 ^ 64 ≤ 8 * (start / 8) → placed None e ≡ zero_field e a l
  unfolding placed zero_field within
  zero-out h = stops (2 ^ 64) e.offset start-bits _ h

  -- ---- bit-fields of width w

  module _ (w unit : ℕ) where
    pub field-at : (b o : ℕ) (l' : Laid) → o ≡ b / unit * unit / 8 → b + w < 2 ^ 64 → laid_of l' ≡ advanced l (b + w) a → placed (Some (record { offset = o; bit = b; laid = l' })) e ≡ field_at e w unit a l b
    unfolding placed field_at within
    field-at b o l' x h m = goes_on (2 ^ 64) e.offset refl _ h (rw (x, m))

    pub field_out : (b : ℕ) → 2 ^ 64 ≤ b + w → placed None e ≡ field_at e w unit a l b
    unfolding placed field_at within
    field_out b h = stops (2 ^ 64) e.offset refl _ h

  -- in units of as many bytes as their type has

  module _ (w size : ℕ) where
    abbrev u : ℕ
    u = max size 1

    abbrev unit_end : ℕ
    unit_end = 8 * (l.taken / 8 / u * u + u)

    unit_is : unit_end ≡ l.taken / (8 * u) * (8 * u) + 8 * u
    unit_is = omega (arith, unit_start l.taken 8 u)

    pub unit_out : 2 ^ 64 ≤ unit_end → placed None e ≡ bit_field e w (8 * u) a l
    unfolding placed bit_field within
    unit_out h = stops (2 ^ 64) e.offset unit_is _ h

    -- it fits its unit,
    pub stays : {r : Answer (Member × layout.Laid)} → unit_end < 2 ^ 64 → l.taken + w ≤ unit_end → r ≡ field_at e w (8 * u) a l l.taken → r ≡ bit_field e w (8 * u) a l
    unfolding bit_field field_start within
    stays h k q = goes_on (2 ^ 64) e.offset unit_is _ h (rw (le-ltb unit_end (l.taken + w) k) q)

    -- or moves
    pub moves : {r : Answer (Member × layout.Laid)} → unit_end < 2 ^ 64 → unit_end < l.taken + w → r ≡ field_at e w (8 * u) a l start → r ≡ bit_field e w (8 * u) a l
    unfolding bit_field field_start within
    moves h k q = goes_on (2 ^ 64) e.offset unit_is _ h (rw (lt-ltb unit_end (l.taken + w) k) q)

    pub start-out : 2 ^ 64 ≤ 8 * (start / 8) → placed None e ≡ field_at e w (8 * u) a l start
    start-out h = field_out w (8 * u) start (omega (arith, start-bits))

-- the end of the unit that a bit lies in, as it was computed
pub unit-end : (r : Option ℕ) (bit size : ℕ) {unit top : ℕ} → unit ≡ bit / (8 * max size 1) * (8 * max size 1) / 8 → top ≡ max size 1 → ((at : ℕ) → exact r at ≡ within at (8 * (unit + top)))
    → (at : ℕ) → exact r at ≡ within at (8 * (bit / 8 / max size 1 * max size 1 + max size 1))
unit-end r bit size e f told = rw (← unit_in_parts bit 8 (max size 1) (omega arith), ← e, ← f) told

-- ---- by the width

module _ (e : Member) (s a : ℕ) (l : layout.Laid) where
  pub is_plain : {w : maybe.Option ℕ} → maybe.none ≡ w → in_struct w e s a l ≡ plain_member e s a l
  unfolding in_struct
  is_plain q = rw (← q)

  pub is-zero : {w : maybe.Option ℕ} {n : ℕ} → n ≡ 0 → maybe.some n ≡ w → in_struct w e s a l ≡ zero_field e a l
  unfolding in_struct
  is-zero z q = rw (← q, z)

  pub is_field : {w : maybe.Option ℕ} (n : ℕ) → (n ≡ 0 → ⊥) → maybe.some n ≡ w → in_struct w e s a l ≡ bit_field e n (8 * max s 1) a l
  unfolding in_struct
  is_field zero x q = absurd (x refl)
  is_field (suc n) x q = rw (← q)

  -- a member of a union
  pub union-is : (l' : Laid) → l'.taken ≡ l.taken → max l'.align 1 ≡ max l.align a → l'.widest ≡ widest_with e.width l.widest s → (located e 0 0, laid_of l') ≡ in_union e s a l
  unfolding in_union
  union-is l' x y z = rw (x, y, z)

  -- one of width 0 is not wide, any other is
  pub union-zero : {w : maybe.Option ℕ} {n : ℕ} → n ≡ 0 → maybe.some n ≡ w → widest_with w l.widest s ≡ l.widest
  union-zero z q = rw (← q, z)

  pub union-none : {w : maybe.Option ℕ} → maybe.none ≡ w → widest_with w l.widest s ≡ max l.widest s
  union-none q = rw (← q)

  pub union-wide : {w : maybe.Option ℕ} (n : ℕ) → (n ≡ 0 → ⊥) → maybe.some n ≡ w → widest_with w l.widest s ≡ max l.widest s
  union-wide zero x q = absurd (x refl)
  union-wide (suc n) x q = rw (← q)
