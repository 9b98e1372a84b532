-- Demand 3's claim on walks, from what the reader keeps true of its table.
use mathlib.Core.Path.{◌≡◌, refl, sym, ◌∙◌, ap, subst}
use mathlib.Core.Logic.{◌≢◌, ◌⊎◌, inl, inr}
use mathlib.Core.List.{List, [], ◌∷◌, ◌++◌}
use mathlib.Core.Option.{Option, none, some, some-injective, none-ne-some}
use mathlib.Core.Bool.{Bool, true, false}
use Prim.Native.Nat.{ℕ, zero, suc, ◌+◌, ◌*◌, ◌≤◌, ◌<◌}
use native.Mathlib.Nat.{mul-le-mul_right}
use native.Mathlib.Decide.{dec_lt}
use native.Mathlib.Omega.{arith}
use lib.Dec.{T, eqb, ltb, eqb→eq, ltb→lt}
use lib.ListN.{get_elem?}
use Rattle.definition.specs.Model.{Model}
use Rattle.definition.specs.Row.{Row, void, int, float, bool, pointer, array, composite, enumeration, function, typedef, qualified, Qualifiers, or_zero}
use Rattle.definition.specs.Table.{Member, Table, row_at}
use Rattle.definition.specs.Size.{size_by, size_within, size_of, times}
use Rattle.definition_laws.proofs.Counted.{sizes-same, size-agree}
use Rattle.walks.specs.Walk.{Shape, whole, unsized, elements, fields, shape_by, shape_within, shape_of, Step, member, index, Spot, value, bits, bits_of, landed, picked, enter, step, step_from, walk_from, walk, place_of, Inside, NoSharedBit, divides, divides_at, Walks}

-- the tests' outcomes as facts
pub T_of : {b : Bool} → b ≡ true → T b
T_of e = subst T (sym e) tt

-- ---- what a row is to these proofs

-- a struct or union (a union; tag; size), an enum (tag; bytes), or something else
pub data View : Type 0 where
  composed : Bool → ℕ → Option ℕ → View
  listed : ℕ → ℕ → View
  other : View

unfoldable pub view_of : Row → View
view_of void = other
view_of (int s g) = other
view_of (float s) = other
view_of bool = other
view_of (pointer r) = other
view_of (array r b) = other
view_of (composite u w s e) = composed u w s
view_of (enumeration w s e) = listed w s
view_of (function r v e) = other
view_of (typedef w r) = other
view_of (qualified r q) = other

abbrev pub view_at : Table → ℕ → View
view_at t n = view_of (row_at t n)

-- an array without a bound, looked for through typedefs and qualifiers
pub data Open (t : Table) : ℕ → Type 0 where
  here : {n r : ℕ} → row_at t n ≡ array r none → Open t n
  by_name : {n w r : ℕ} → row_at t n ≡ typedef w r → Open t r → Open t n
  by_qualifiers : {n r : ℕ} {q : Qualifiers} → row_at t n ≡ qualified r q → Open t r → Open t n

-- ---- sizes: the bound on the steps does not matter

-- what is asked of a lower row only
pub lower-agree : {A : Type 0} (a : A) (n : ℕ) (f g : ℕ → A) (r : ℕ) → (r < n → f r ≡ g r)
    → ◌≡◌ {A = A} (elim (ltb r n) [ true ↦ f r | false ↦ a ]) (elim (ltb r n) [ true ↦ g r | false ↦ a ])
lower-agree {A} a n f g r h = at (ltb r n) refl
  where
    at : (b : Bool) → ltb r n ≡ b → ◌≡◌ {A = A} (elim b [ true ↦ f r | false ↦ a ]) (elim b [ true ↦ g r | false ↦ a ])
    at true z = h (ltb→lt r n (T_of z))
    at false z = refl

same-either : {A : Type 0} (b : Bool) (a x : A) → x ≡ a → ◌≡◌ {A = A} (elim b [ true ↦ x | false ↦ a ]) a
same-either true a x e = e
same-either false a x e = refl

module _ (m : Model) (t : Table) where
  -- the size of a row, by the sizes of the rows that it names
  abbrev lower_size : ℕ → ℕ → Option ℕ
  lower_size n r = elim (ltb r n) [ true ↦ size_of m t r | false ↦ none ]

  size-at : (n : ℕ) (r : Row) → row_at t n ≡ r → size_of m t n ≡ size_by m (λ x. lower_size n x) r
  unfolding size_within
  size-at n r e =
      sizes-same m _ _ (λ x. lower-agree none n (λ y. size_within n m t y) (λ y. size_of m t y) x (λ l. size-agree m t n (suc x) x l (omega arith))) (row_at t n)
      ∙ ap (λ x. size_by m (λ y. lower_size n y) x) e

  -- what a shape says of the size of its row
  unfoldable pub Is : Shape → Option ℕ → Type 0
  Is whole o = Unit
  Is unsized o = o ≡ none
  Is (elements r b) o = (s : ℕ) → o ≡ some s → (z : ℕ) × (size_of m t r ≡ some z) × (s ≡ z * b)
  Is (fields r u) o = (w : ℕ) × (view_at t r ≡ composed u w o)

  elements-are : (n r b s : ℕ) → times (lower_size n r) b ≡ some s → (z : ℕ) × (size_of m t r ≡ some z) × (s ≡ z * b)
  elements-are n r b s e = at (ltb r n) e
    where
      known : (o : Option ℕ) → size_of m t r ≡ o → times o b ≡ some s → (z : ℕ) × (size_of m t r ≡ some z) × (s ≡ z * b)
      known none q h = absurd (none-ne-some s h)
      known (some z) q h = (z, q, sym (some-injective (z * b) s h))

      at : (x : Bool) → times (elim x as (λ y. Option ℕ) [ true ↦ size_of m t r | false ↦ none ]) b ≡ some s → (z : ℕ) × (size_of m t r ≡ some z) × (s ≡ z * b)
      at true h = known (size_of m t r) refl h
      at false h = absurd (none-ne-some s h)

  is-lower : (f n r : ℕ) → ((x : ℕ) → x < n → Is (shape_within f t x) (size_of m t x))
      → Is (elim (ltb r n) as (λ x. Shape) [ true ↦ shape_within f t r | false ↦ whole ]) (lower_size n r)
  unfolding Is
  is-lower f n r h = at (ltb r n) refl
    where
      at : (b : Bool) → ltb r n ≡ b → Is (elim b as (λ x. Shape) [ true ↦ shape_within f t r | false ↦ whole ]) (elim b as (λ x. Option ℕ) [ true ↦ size_of m t r | false ↦ none ])
      at true z = h r (ltb→lt r n (T_of z))
      at false z = tt

  is_at : (f n : ℕ) → ((x : ℕ) → x < n → Is (shape_within f t x) (size_of m t x)) → (r : Row) → row_at t n ≡ r
      → Is (shape_by (λ x. elim (ltb x n) [ true ↦ shape_within f t x | false ↦ whole ]) n r) (size_of m t n)
  unfolding Is size_by shape_by view_of
  is_at f n h void e = tt
  is_at f n h (int z g) e = tt
  is_at f n h (float z) e = tt
  is_at f n h bool e = tt
  is_at f n h (pointer r) e = tt
  is_at f n h (array r none) e = size-at n _ e
  is_at f n h (array r (some b)) e = λ s q. elements-are n r b s (sym (size-at n _ e) ∙ q)
  is_at f n h (composite u w z k) e = (w, ap view_of e ∙ ap (λ o. composed u w o) (sym (size-at n _ e)))
  is_at f n h (enumeration w z k) e = tt
  is_at f n h (function r v k) e = tt
  is_at f n h (typedef w r) e = subst (λ o. Is (elim (ltb r n) as (λ x. Shape) [ true ↦ shape_within f t r | false ↦ whole ]) o) (sym (size-at n _ e)) (is-lower f n r h)
  is_at f n h (qualified r q) e = subst (λ o. Is (elim (ltb r n) as (λ x. Shape) [ true ↦ shape_within f t r | false ↦ whole ]) o) (sym (size-at n _ e)) (is-lower f n r h)

  is_within : (f n : ℕ) → n < f → Is (shape_within f t n) (size_of m t n)
  unfolding shape_within
  is_within zero n h = absurd (omega arith)
  is_within (suc f) n h = is_at f n (λ r l. is_within f r (omega arith)) (row_at t n) refl

  pub is : (n : ℕ) → Is (shape_of t n) (size_of m t n)
  is n = is_within (suc n) n (omega arith)

  -- ---- unsized arrays: no size, and no step

  Size0 : ℕ → ℕ → Row → Option ℕ
  Size0 f n x = size_by m (λ y. elim (ltb y n) [ true ↦ size_within f m t y | false ↦ none ]) x

  pub open_size : (f n : ℕ) → Open t n → size_within f m t n ≡ none
  unfolding size_within Size0 size_by
  open_size zero n o = refl
  open_size (suc f) n (here e) = ap (Size0 f n) e ∙ refl
  open_size (suc f) n (by_name {r = r} e o) = ap (Size0 f n) e ∙ (same-either (ltb r n) none (size_within f m t r) (open_size f r o))
  open_size (suc f) n (by_qualifiers {r = r} e o) = ap (Size0 f n) e ∙ (same-either (ltb r n) none (size_within f m t r) (open_size f r o))

  -- no step goes on from here
  unfoldable pub Still : Shape → Type 0
  Still whole = Unit
  Still unsized = Unit
  Still (elements r b) = ⊥
  Still (fields r u) = ⊥

  Shape0 : ℕ → ℕ → Row → Shape
  Shape0 f n x = shape_by (λ y. elim (ltb y n) [ true ↦ shape_within f t y | false ↦ whole ]) n x

  still-either : (b : Bool) (x : Shape) → Still x → Still (elim b as (λ z. Shape) [ true ↦ x | false ↦ whole ])
  unfolding Still
  still-either true x h = h
  still-either false x h = tt

  open_still : (f n : ℕ) → Open t n → Still (shape_within f t n)
  unfolding shape_within Still Shape0 shape_by
  open_still zero n o = tt
  open_still (suc f) n (here e) = subst (λ x. Still (Shape0 f n x)) (sym e) tt
  open_still (suc f) n (by_name {r = r} e o) = subst (λ x. Still (Shape0 f n x)) (sym e) (still-either (ltb r n) (shape_within f t r) (open_still f r o))
  open_still (suc f) n (by_qualifiers {r = r} e o) = subst (λ x. Still (Shape0 f n x)) (sym e) (still-either (ltb r n) (shape_within f t r) (open_still f r o))

  still-none : (h : Shape) → Still h → (b : ℕ) (x : Step) → enter m t h b x ≡ none
  unfolding Still
  still-none whole s b x = refl
  still-none unsized s b x = refl
  still-none (elements r n) s b x = absurd s
  still-none (fields r u) s b x = absurd s

  still_one : (h : Shape) → Still h → T (divides h) → ⊥
  unfolding Still
  still_one whole s d = d
  still_one unsized s d = d
  still_one (elements r n) s d = s
  still_one (fields r u) s d = s

  -- a type of known size, or an unsized array
  abbrev pub KnownOrOpen : ℕ → Type 0
  KnownOrOpen n = ((s : ℕ) × (size_of m t n ≡ some s)) ⊎ Open t n

  -- the run of bits of an entry, counted from where its record begins
  abbrev pub entry_from : Member → Option ℕ → ℕ
  entry_from e none = 8 * e.offset
  entry_from e (some w) = e.first_bit

  abbrev pub entry_wide : Member → Option ℕ → ℕ
  entry_wide e none = bits_of m t e.type
  entry_wide e (some w) = w

  abbrev pub entry_end : Member → ℕ
  entry_end e = entry_from e e.width + entry_wide e e.width

  abbrev pub PlainKnown : Member → Option ℕ → Type 0
  PlainKnown e none = KnownOrOpen e.type
  PlainKnown e (some w) = Unit

  -- What the reader keeps true of its table, from which the claim on walks follows.
  pub record Sound : Type 0 where
    -- an entry of a struct or union of known size ends within it, and a plain one's type is known or an unsized array
    pub fits : (k : ℕ) (e : Member) → get_elem? t.members k ≡ some e → (u : Bool) (w s : ℕ) → view_at t e.row ≡ composed u w (some s)
        → (entry_end e ≤ 8 * s) × PlainKnown e e.width
    -- the entries of a struct stand in order
    pub ordered : (j k : ℕ) (d e : Member) → j < k → get_elem? t.members j ≡ some d → get_elem? t.members k ≡ some e → d.row ≡ e.row
        → (w s : ℕ) → view_at t e.row ≡ composed false w (some s) → entry_end d ≤ entry_from e e.width

-- ---- one step

module _ (m : Model) (t : Table) (sound : Sound m t) where
  -- a spot that lies from lo up to hi, at a type of known size or an unsized array
  Fine : ℕ → ℕ → Option Spot → Type 0
  Fine lo hi none = Unit
  Fine lo hi (some (value n b)) = KnownOrOpen m t n × (lo ≤ b) × (b + bits_of m t n ≤ hi)
  Fine lo hi (some (bits b w)) = (lo ≤ b) × (b + w ≤ hi)

  -- an element of an array that lies at b
  element_fine : (lo hi b r n s : ℕ) → (z : ℕ) × (size_of m t r ≡ some z) × (s ≡ z * n) → lo ≤ b → b + 8 * s ≤ hi → (i : ℕ) → i < n
      → Fine (b + i * bits_of m t r) (b + i * bits_of m t r + bits_of m t r) (some (value r (b + i * bits_of m t r)))
      × (lo ≤ b + i * bits_of m t r) × (b + i * bits_of m t r + bits_of m t r ≤ hi)
  unfolding Fine
  element_fine lo hi b r n s q l h i k =
      let z = q.0 in
      let e : s ≡ z * n = q.2 in
      ((inl (z, q.1), omega arith, omega arith), omega arith, rw q.1 (omega (arith, mul-le-mul_right (8 * z) k)))

  wider : (lo hi lo' hi' : ℕ) → lo' ≤ lo → hi ≤ hi' → (o : Option Spot) → Fine lo hi o → Fine lo' hi' o
  unfolding Fine
  wider lo hi lo' hi' l h none f = tt
  wider lo hi lo' hi' l h (some (value n b)) f = (f.0, omega arith, omega arith)
  wider lo hi lo' hi' l h (some (bits b w)) f = omega arith

  landed-fine : (e : Member) (o : Option ℕ) (b : ℕ) → PlainKnown m t e o
      → Fine (b + entry_from m t e o) (b + (entry_from m t e o + entry_wide m t e o)) (some (landed e o b))
  unfolding Fine
  landed-fine e none b k = (k, omega arith, omega arith)
  landed-fine e (some w) b k = omega arith

  -- a member of a struct or union of s bytes that lies at b
  picked-fine : (b r w s : ℕ) (u : Bool) → view_at t r ≡ composed u w (some s) → (k : ℕ) → Fine b (b + 8 * s) (picked (get_elem? t.members k) r b)
  unfolding Fine
  picked-fine b r w s u c k = go (get_elem? t.members k) refl
    where
      at : (e : Member) → get_elem? t.members k ≡ some e → (q : Bool) → eqb e.row r ≡ q
          → Fine b (b + 8 * s) (elim q as (λ x. Option Spot) [ true ↦ some (landed e e.width b) | false ↦ none ])
      at e g false z = tt
      at e g true z =
          let same : e.row ≡ r = eqb→eq e.row r (T_of z) in
          let c' : view_at t e.row ≡ composed u w (some s) = rw same c in
          let h = sound.fits k e g u w s c' in
          wider (b + entry_from m t e e.width) (b + entry_end m t e) b (b + 8 * s) (omega arith) (omega (arith, h.0)) (some (landed e e.width b)) (landed-fine e e.width b h.1)

      go : (o : Option Member) → get_elem? t.members k ≡ o → Fine b (b + 8 * s) (picked o r b)
      go none g = tt
      go (some e) g = at e g (eqb e.row r) refl

  enter-fine : (lo hi b s : ℕ) (h : Shape) → Is m t h (some s) → lo ≤ b → b + 8 * s ≤ hi → (x : Step) → Fine lo hi (enter m t h b x)
  unfolding Fine Is
  enter-fine lo hi b s whole i l h x = tt
  enter-fine lo hi b s unsized i l h x = tt
  enter-fine lo hi b s (elements r n) i l h (member k) = tt
  enter-fine lo hi b s (elements r n) i l h (index j) = go (ltb j n) refl
    where
      go : (q : Bool) → ltb j n ≡ q → Fine lo hi (elim q as (λ x. Option Spot) [ true ↦ some (value r (b + j * bits_of m t r)) | false ↦ none ])
      go false z = tt
      go true z = let f = element_fine lo hi b r n s (i s refl) l h j (ltb→lt j n (T_of z)) in wider _ _ lo hi f.1 f.2 (some (value r (b + j * bits_of m t r))) f.0
  enter-fine lo hi b s (fields r u) i l h (index j) = tt
  enter-fine lo hi b s (fields r u) i l h (member k) = wider b (b + 8 * s) lo hi l h (picked (get_elem? t.members k) r b) (picked-fine b r i.0 s u i.1 k)

  step-fine : (lo hi : ℕ) (o : Option Spot) → Fine lo hi o → (x : Step) → Fine lo hi (step_from m t o x)
  unfolding Fine step
  step-fine lo hi none f x = tt
  step-fine lo hi (some (bits b w)) f x = tt
  step-fine lo hi (some (value n b)) f x = go f.0
    where
      go : KnownOrOpen m t n → Fine lo hi (enter m t (shape_of t n) b x)
      go (inr u) = subst (λ o. Fine lo hi o) (sym (still-none m t (shape_of t n) (open_still m t (suc n) n u) b x)) tt
      go (inl k) =
          enter-fine lo hi b k.0 (shape_of t n) (subst (λ o. Is m t (shape_of t n) o) k.1 (is m t n)) f.1
          (subst (λ o. b + 8 * or_zero o ≤ hi) k.1 f.2) x

  walk_fine : (lo hi : ℕ) (o : Option Spot) → Fine lo hi o → (xs : List Step) → Fine lo hi (walk_from m t o xs)
  unfolding walk_from
  walk_fine lo hi o f [] = f
  walk_fine lo hi o f (x ∷ xs) = walk_fine lo hi (step_from m t o x) (step-fine lo hi o f x) xs

  start_fine : (n s : ℕ) → size_of m t n ≡ some s → Fine 0 (8 * s) (some (value n 0))
  unfolding Fine
  start_fine n s e = (inl (s, e), omega arith, rw e (omega arith))

  -- ---- every place lies inside the start type

  fine-place : (lo hi : ℕ) (e : Spot) → Fine lo hi (some e) → (lo ≤ (place_of m t e).from) × ((place_of m t e).from + (place_of m t e).wide ≤ hi)
  unfolding Fine
  fine-place lo hi (value n b) f = (f.1, f.2)
  fine-place lo hi (bits b w) f = f

  inside-walk : (n s : ℕ) → size_of m t n ≡ some s → (xs : List Step) (e : Spot) → walk m t n xs ≡ some e → Inside (place_of m t e) s
  inside-walk n s z xs e w = (fine-place 0 (8 * s) e (subst (λ o. Fine 0 (8 * s) o) w (walk_fine 0 (8 * s) _ (start_fine n s z) xs))).1

  -- ---- two steps that part

  -- two steps from one spot go to two sides of some bit c
  Sides : ℕ → ℕ → Option Spot → Option Spot → Type 0
  Sides lo hi o o' = (c : ℕ) × ((Fine lo c o × Fine c hi o') ⊎ (Fine c hi o × Fine lo c o'))

  turned : (lo hi : ℕ) (o o' : Option Spot) → Sides lo hi o o' → Sides lo hi o' o
  unfolding Sides
  turned lo hi o o' s = (s.0, go s.1)
    where
      go : (Fine lo s.0 o × Fine s.0 hi o') ⊎ (Fine s.0 hi o × Fine lo s.0 o') → (Fine lo s.0 o' × Fine s.0 hi o) ⊎ (Fine s.0 hi o' × Fine lo s.0 o)
      go (inl a) = inr (a.1, a.0)
      go (inr a) = inl (a.1, a.0)

  -- two elements of an array that lies at b, the first before the second
  element_sides : (lo hi b r n s : ℕ) → (z : ℕ) × (size_of m t r ≡ some z) × (s ≡ z * n) → lo ≤ b → b + 8 * s ≤ hi → (i j : ℕ) → i < j
      → Sides lo hi (enter m t (elements r n) b (index i)) (enter m t (elements r n) b (index j))
  unfolding Sides Fine
  element_sides lo hi b r n s e l h i j k = (b + j * bits_of m t r, inl (left (ltb i n) refl, right (ltb j n) refl))
    where
      left : (q : Bool) → ltb i n ≡ q → Fine lo (b + j * bits_of m t r) (elim q as (λ x. Option Spot) [ true ↦ some (value r (b + i * bits_of m t r)) | false ↦ none ])
      left false z = tt
      left true z =
          let f = element_fine lo hi b r n s e l h i (ltb→lt i n (T_of z)) in
          wider _ _ lo (b + j * bits_of m t r) f.1 (omega (arith, mul-le-mul_right (bits_of m t r) k)) (some (value r (b + i * bits_of m t r))) f.0

      right : (q : Bool) → ltb j n ≡ q → Fine (b + j * bits_of m t r) hi (elim q as (λ x. Option Spot) [ true ↦ some (value r (b + j * bits_of m t r)) | false ↦ none ])
      right false z = tt
      right true z =
          let f = element_fine lo hi b r n s e l h j (ltb→lt j n (T_of z)) in
          wider _ _ (b + j * bits_of m t r) hi (omega arith) f.2 (some (value r (b + j * bits_of m t r))) f.0

  -- two members of a struct that lies at b, the first before the second
  member_sides : (b r w s : ℕ) → view_at t r ≡ composed false w (some s) → (j k : ℕ) → j < k
      → Sides b (b + 8 * s) (picked (get_elem? t.members j) r b) (picked (get_elem? t.members k) r b)
  unfolding Sides Fine
  member_sides b r w s c j k l = go (get_elem? t.members k) refl
    where
      first : (e : Member) → get_elem? t.members k ≡ some e → e.row ≡ r → (o : Option Member) → get_elem? t.members j ≡ o
          → Fine b (b + entry_from m t e e.width) (picked o r b)
      first e g q none h = tt
      first e g q (some d) h = at (eqb d.row r) refl
        where
          at : (y : Bool) → eqb d.row r ≡ y → Fine b (b + entry_from m t e e.width) (elim y as (λ x. Option Spot) [ true ↦ some (landed d d.width b) | false ↦ none ])
          at false z = tt
          at true z =
              let dr : d.row ≡ r = eqb→eq d.row r (T_of z) in
              let ce : view_at t e.row ≡ composed false w (some s) = rw q c in
              let cd : view_at t d.row ≡ composed false w (some s) = rw dr c in
              let before = sound.ordered j k d e l h g (dr ∙ sym q) w s ce in
              wider (b + entry_from m t d d.width) (b + entry_end m t d) b (b + entry_from m t e e.width) (omega arith) (omega arith) (some (landed d d.width b))
              (landed-fine d d.width b (sound.fits j d h false w s cd).1)

      at : (e : Member) → get_elem? t.members k ≡ some e → (q : Bool) → eqb e.row r ≡ q
          → Sides b (b + 8 * s) (picked (get_elem? t.members j) r b) (elim q as (λ x. Option Spot) [ true ↦ some (landed e e.width b) | false ↦ none ])
      at e g false z = (b + 8 * s, inl (picked-fine b r w s false c j, tt))
      at e g true z =
          let er : e.row ≡ r = eqb→eq e.row r (T_of z) in
          let ce : view_at t e.row ≡ composed false w (some s) = rw er c in
          let h = sound.fits k e g false w s ce in (
            b + entry_from m t e e.width,
            inl (
              first e g er (get_elem? t.members j) refl,
              wider (b + entry_from m t e e.width) (b + entry_end m t e) (b + entry_from m t e e.width) (b + 8 * s) (omega arith) (omega (arith, h.0)) (some (landed e e.width b))
                  (landed-fine e e.width b h.1),
            ),
          )

      go : (o : Option Member) → get_elem? t.members k ≡ o → Sides b (b + 8 * s) (picked (get_elem? t.members j) r b) (picked o r b)
      go none g = (b + 8 * s, inl (picked-fine b r w s false c j, tt))
      go (some e) g = at e g (eqb e.row r) refl

  wider_sides : (lo hi lo' hi' : ℕ) → lo' ≤ lo → hi ≤ hi' → (o o' : Option Spot) → Sides lo hi o o' → Sides lo' hi' o o'
  unfolding Sides
  wider_sides lo hi lo' hi' l h o o' s = (s.0, go s.1)
    where
      go : (Fine lo s.0 o × Fine s.0 hi o') ⊎ (Fine s.0 hi o × Fine lo s.0 o') → (Fine lo' s.0 o × Fine s.0 hi' o') ⊎ (Fine s.0 hi' o × Fine lo' s.0 o')
      go (inl a) = inl (wider lo s.0 lo' s.0 l (omega arith) o a.0, wider s.0 hi s.0 hi' (omega arith) h o' a.1)
      go (inr a) = inr (wider s.0 hi s.0 hi' (omega arith) h o a.0, wider lo s.0 lo' s.0 l (omega arith) o' a.1)

  enter_sides : (lo hi b s : ℕ) (h : Shape) → Is m t h (some s) → T (divides h) → lo ≤ b → b + 8 * s ≤ hi → (x y : Step) → x ≢ y
      → Sides lo hi (enter m t h b x) (enter m t h b y)
  unfolding Sides Fine Is
  enter_sides lo hi b s whole i d l h x y n = absurd d
  enter_sides lo hi b s unsized i d l h x y n = absurd d
  enter_sides lo hi b s (elements r a) i d l h (member j) y n = (lo, inl (tt, enter-fine lo hi b s (elements r a) i l h y))
  enter_sides lo hi b s (elements r a) i d l h (index j) (member k) n = (lo, inr (enter-fine lo hi b s (elements r a) i l h (index j), tt))
  enter_sides lo hi b s (elements r a) i d l h (index j) (index k) n = go (dec_lt j k)
    where
      go : Dec (j < k) → Sides lo hi (enter m t (elements r a) b (index j)) (enter m t (elements r a) b (index k))
      go (yes q) = element_sides lo hi b r a s (i s refl) l h j k q
      go (no q) =
          let ne : j ≢ k = λ e. n (ap index e) in
          turned lo hi (enter m t (elements r a) b (index k)) (enter m t (elements r a) b (index j)) (element_sides lo hi b r a s (i s refl) l h k j (omega arith))
  enter_sides lo hi b s (fields r true) i d l h x y n = absurd d
  enter_sides lo hi b s (fields r false) i d l h (index j) y n = (lo, inl (tt, enter-fine lo hi b s (fields r false) i l h y))
  enter_sides lo hi b s (fields r false) i d l h (member j) (index k) n = (lo, inr (enter-fine lo hi b s (fields r false) i l h (member j), tt))
  enter_sides lo hi b s (fields r false) i d l h (member j) (member k) n = go (dec_lt j k)
    where
      A : Option Spot
      A = picked (get_elem? t.members j) r b

      B : Option Spot
      B = picked (get_elem? t.members k) r b

      go : Dec (j < k) → Sides lo hi A B
      go (yes q) = wider_sides b (b + 8 * s) lo hi l h A B (member_sides b r i.0 s i.1 j k q)
      go (no q) =
          let ne : j ≢ k = λ e. n (ap member e) in
          wider_sides b (b + 8 * s) lo hi l h A B (turned b (b + 8 * s) B A (member_sides b r i.0 s i.1 k j (omega arith)))

  step_sides : (lo hi : ℕ) (o : Option Spot) → Fine lo hi o → T (divides_at t o) → (x y : Step) → x ≢ y → Sides lo hi (step_from m t o x) (step_from m t o y)
  unfolding Sides Fine step
  step_sides lo hi none f d x y n = absurd d
  step_sides lo hi (some (bits b w)) f d x y n = absurd d
  step_sides lo hi (some (value r b)) f d x y n = go f.0
    where
      go : KnownOrOpen m t r → Sides lo hi (enter m t (shape_of t r) b x) (enter m t (shape_of t r) b y)
      go (inr u) = absurd (still_one m t (shape_of t r) (open_still m t (suc r) r u) d)
      go (inl k) =
          enter_sides lo hi b k.0 (shape_of t r) (subst (λ o. Is m t (shape_of t r) o) k.1 (is m t r)) d f.1
          (subst (λ o. b + 8 * or_zero o ≤ hi) k.1 f.2) x y n

  walk-append : (o : Option Spot) (xs ys : List Step) → walk_from m t o (xs ++ ys) ≡ walk_from m t (walk_from m t o xs) ys
  unfolding walk_from
  walk-append o [] ys = refl
  walk-append o (x ∷ xs) ys = walk-append (step_from m t o x) xs ys

  -- ---- two walks that part share no bit

  apart_spots : (lo hi : ℕ) (a b : Option Spot) → Sides lo hi a b → (xs ys : List Step) (e f : Spot)
      → walk_from m t a xs ≡ some e → walk_from m t b ys ≡ some f → NoSharedBit (place_of m t e) (place_of m t f)
  unfolding Sides
  apart_spots lo hi a b s xs ys e f u v k h g = go s.1
    where
      c : ℕ
      c = s.0

      go : (Fine lo c a × Fine c hi b) ⊎ (Fine c hi a × Fine lo c b) → ⊥
      go (inl q) =
          let x = fine-place lo c e (subst (λ o. Fine lo c o) u (walk_fine lo c a q.0 xs)) in
          let y = fine-place c hi f (subst (λ o. Fine c hi o) v (walk_fine c hi b q.1 ys)) in
          omega arith
      go (inr q) =
          let x = fine-place c hi e (subst (λ o. Fine c hi o) u (walk_fine c hi a q.0 xs)) in
          let y = fine-place lo c f (subst (λ o. Fine lo c o) v (walk_fine lo c b q.1 ys)) in
          omega arith

  apart-walks : (n s : ℕ) → size_of m t n ≡ some s → (before xs ys : List Step) (x y : Step) → x ≢ y → T (divides_at t (walk m t n before))
      → (e f : Spot) → walk m t n (before ++ x ∷ xs) ≡ some e → walk m t n (before ++ y ∷ ys) ≡ some f
      → NoSharedBit (place_of m t e) (place_of m t f)
  unfolding walk_from
  apart-walks n s z before xs ys x y ne d e f u v =
      let o = walk m t n before in
      apart_spots 0 (8 * s) (step_from m t o x) (step_from m t o y)
      (step_sides 0 (8 * s) o (walk_fine 0 (8 * s) (some (value n 0)) (start_fine n s z) before) d x y ne) xs ys e f
      (sym (walk-append (some (value n 0)) before (x ∷ xs)) ∙ u) (sym (walk-append (some (value n 0)) before (y ∷ ys)) ∙ v)

  pub walks : Walks m t
  walks = record { inside = inside-walk; apart = apart-walks }
