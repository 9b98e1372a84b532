-- Laws of padded lists and of rows of a fixed width laid one after the other. Assumes nothing.
use mathlib.Core.Path.{◌≡◌, refl, sym, ap, ◌∙◌}
use mathlib.Core.List.{List, [], ◌∷◌, ◌++◌, append_assoc, append-nil}
use Prim.Native.Nat.{ℕ, zero, suc, ◌+◌, ◌-◌, ◌*◌, ◌≤◌, ◌<◌}
use native.Mathlib.Omega.{arith}
use native.Mathlib.Nat.{mul-le-mul_left}
use mathlib.Core.Bool.{Bool, true, false}
use lib.Dec.{ltb}
use borrow.Author.Tests.{ltb-true, ltb-false}
use lib.ListN.{length, get_or, set, take, drop, replicate, length-take, length-drop, length-append, length-set, length-replicate, get_or-replicate, get_or-append, get_or-eq_default}
use lib.Seq.{set_at, set-append_left, get_or-append-add}
use borrow.Rule.Slice.PartMut.{put_mid}
use Rattle.std.proofs.lemmas.List.{set_comm, take-append-drop}
use Rattle.definition.specs.Lent.{padded, flat}
use Rattle.table.specs.Store.{stores, stored}

module _ {E : Type 0} where
  pub set_after : (xs ys : List E) (n i : ℕ) (v : E) → length xs ≡ n → set (xs ++ ys) (n + i) v ≡ xs ++ set ys i v
  set_after [] ys n i v e = let h : n + i ≡ i = omega arith in rw h
  set_after (x ∷ xs) ys n i v e = let h : n + i ≡ suc ((n - 1) + i) = omega arith in rw h (ap {B = List E} (λ l. x ∷ l) (set_after xs ys (n - 1) i v (omega arith)))

  pub get_after : (xs ys : List E) (n i : ℕ) (z : E) → length xs ≡ n → get_or (xs ++ ys) (n + i) z ≡ get_or ys i z
  get_after xs ys n i z e = rw (← e) (get_or-append-add xs ys i z)

  pub stores-after : (xs ys : List E) (m b j : ℕ) (vs : List E) → length xs ≡ m → stores (xs ++ ys) (m + b) j vs ≡ xs ++ stores ys b j vs
  stores-after xs ys m b j [] e = refl
  stores-after xs ys m b j (v ∷ vs) e =
      let a : m + b + j ≡ m + (b + j) = omega arith in
      rw (a, set_after xs ys m (b + j) v e) (stores-after xs (set ys (b + j) v) m b (suc j) vs e)

module _ {E : Type 0} where
  -- elements stored over as many others
  pub stores-over : (pre ys vs rest : List E) (b j : ℕ) → length pre ≡ b + j → length ys ≡ length vs → stores (pre ++ (ys ++ rest)) b j vs ≡ pre ++ (vs ++ rest)
  stores-over pre [] [] rest b j e h = refl
  stores-over pre [] (v ∷ vs) rest b j e h = absurd (omega arith)
  stores-over pre (y ∷ ys) [] rest b j e h = absurd (omega arith)
  stores-over pre (y ∷ ys) (v ∷ vs) rest b j e h =
      let e2 : length (pre ++ v ∷ []) ≡ b + suc j = rw length-append (omega arith) in
      ap (λ l. stores l b (suc j) vs) (set_at pre y (ys ++ rest) v (b + j) e ∙ sym (append_assoc pre (v ∷ []) (ys ++ rest)))
      ∙ (stores-over (pre ++ v ∷ []) ys vs rest b (suc j) e2 (omega arith) ∙ append_assoc pre (v ∷ []) (vs ++ rest))

  -- a store past them
  pub stores-set : (l : List E) (b j m : ℕ) (x : E) (vs : List E) → b + j + length vs ≤ m → set (stores l b j vs) m x ≡ stores (set l m x) b j vs
  stores-set l b j m x [] p = refl
  stores-set l b j m x (v ∷ vs) p = stores-set (set l (b + j) v) b (suc j) m x vs (omega arith) ∙ ap (λ k. stores k b (suc j) vs) (set_comm l (b + j) m v x (λ e. omega arith))

module _ {E : Type 0} (z : E) where
  pub length-padded : (n : ℕ) (xs : List E) → length xs ≤ n → length (padded z n xs) ≡ n
  unfolding padded
  length-padded n xs h = rw (length-append, length-replicate) (omega arith)

  -- one element more
  pub put : (n : ℕ) (xs : List E) (v : E) (i : ℕ) → length xs ≡ i → i < n → set (padded z n xs) i v ≡ padded z n (xs ++ v ∷ [])
  unfolding padded
  put n xs v i e h =
      let a : n - length xs ≡ suc (n - suc i) = omega arith in
      let b : n - length (xs ++ v ∷ []) ≡ n - suc i = rw length-append (omega arith) in
      rw (a, b) (set_at xs z (replicate (n - suc i) z) v i e ∙ sym (append_assoc xs (v ∷ []) (replicate (n - suc i) z)))

  -- the same, with more after it
  pub put_in : (n : ℕ) (xs rest : List E) (v : E) (i : ℕ) → length xs ≡ i → i < n → set (padded z n xs ++ rest) i v ≡ padded z n (xs ++ v ∷ []) ++ rest
  put_in n xs rest v i e h = set-append_left (padded z n xs) rest i v (rw (length-padded n xs (omega arith)) (omega arith)) ∙ ap (λ l. l ++ rest) (put n xs v i e h)

  pub stores_in : (n : ℕ) (xs rest : List E) (b j : ℕ) (vs : List E) → length xs ≡ b + j → b + j + length vs ≤ n
      → stores (padded z n xs ++ rest) b j vs ≡ padded z n (xs ++ vs) ++ rest
  stores_in n xs rest b j [] e h = ap (λ l. padded z n l ++ rest) (sym (append-nil xs))
  stores_in n xs rest b j (v ∷ vs) e h =
      let e2 : length (xs ++ v ∷ []) ≡ b + suc j = rw length-append (omega arith) in
      ap (λ l. stores l b (suc j) vs) (put_in n xs rest v (b + j) e (omega arith))
      ∙ (stores_in n (xs ++ v ∷ []) rest b (suc j) vs e2 (omega arith) ∙ ap (λ l. padded z n l ++ rest) (append_assoc xs (v ∷ []) vs))

module _ {A E : Type 0} (f : A → List E) where
  pub flat_snoc : (xs : List A) (x : A) → flat f (xs ++ x ∷ []) ≡ flat f xs ++ f x
  unfolding flat
  flat_snoc [] x = append-nil (f x)
  flat_snoc (y ∷ ys) x = rw (flat_snoc ys x) (sym (append_assoc (f y) (flat f ys) (f x)))

  -- a row put in the place of one with the same numbers
  pub flat-same : (d : A) (xs : List A) (y : A) (i : ℕ) → f y ≡ f (get_or xs i d) → flat f (set xs i y) ≡ flat f xs
  unfolding flat
  flat-same d [] y i e = refl
  flat-same d (x ∷ xs) y zero e = ap (λ l. l ++ flat f xs) e
  flat-same d (x ∷ xs) y (suc i) e = ap (λ l. f x ++ l) (flat-same d xs y i e)

  module _ (k : ℕ) (wide : (x : A) → length (f x) ≡ k) where
    pub length-flat : (xs : List A) → length (flat f xs) ≡ k * length xs
    unfolding flat
    length-flat [] = omega arith
    length-flat (x ∷ xs) = rw (length-append, wide x, length-flat xs) (omega arith)

    -- element j of row i
    pub get-flat : (z : E) (d : A) (xs : List A) (i j : ℕ) → j < k → i < length xs → get_or (flat f xs) (k * i + j) z ≡ get_or (f (get_or xs i d)) j z
    unfolding flat
    get-flat z d [] i j p q = absurd (omega arith)
    get-flat z d (x ∷ xs) zero j p q = let e : k * 0 + j ≡ j = omega arith in let h : j < length (f x) = rw wide p in rw e (get_or-append (f x) (flat f xs) z j h)
    get-flat z d (x ∷ xs) (suc i) j p q =
        let e : k * suc i + j ≡ k + (k * i + j) = omega arith in
        rw e (get_after (f x) (flat f xs) k (k * i + j) z (wide x) ∙ get-flat z d xs i j p (omega arith))

    -- and in the padded list
    pub get-row : (z : E) (d : A) (n : ℕ) (xs : List A) (rest : List E) (i j : ℕ) → j < k → i < length xs → get_or (padded z n (flat f xs) ++ rest) (k * i + j) z ≡ get_or (f (get_or xs i d)) j z
    unfolding padded
    get-row z d n xs rest i j p q =
        let a : k * suc i ≤ k * length xs = mul-le-mul_left k q in
        let b : k * i + j < length (flat f xs) = rw (length-flat xs) (omega arith) in
        let c : k * i + j < length (flat f xs ++ replicate (n - length (flat f xs)) z) = rw length-append (omega arith) in
        get_or-append (flat f xs ++ replicate (n - length (flat f xs)) z) rest z (k * i + j) c
        ∙ (get_or-append (flat f xs) (replicate (n - length (flat f xs)) z) z (k * i + j) b ∙ get-flat z d xs i j p q)

    -- a row more: its numbers are stored at k times the number of rows
    pub add_row : (z : E) (n : ℕ) (xs : List A) (rest : List E) (x : A) (b : ℕ) → b ≡ k * length xs → b + k ≤ n
        → stores (padded z n (flat f xs) ++ rest) b 0 (f x) ≡ padded z n (flat f (xs ++ x ∷ [])) ++ rest
    add_row z n xs rest x b e h =
        stores_in z n (flat f xs) rest b 0 (f x) (rw (length-flat xs) (omega arith)) (rw (wide x) (omega arith)) ∙ ap (λ l. padded z n l ++ rest) (sym (flat_snoc xs x))

    -- and where nothing stands after
    pub add_row_end : (z : E) (n : ℕ) (xs : List A) (x : A) (b : ℕ) → b ≡ k * length xs → b + k ≤ n
        → stores (padded z n (flat f xs)) b 0 (f x) ≡ padded z n (flat f (xs ++ x ∷ []))
    add_row_end z n xs x b e h =
        ap (λ l. stores l b 0 (f x)) (sym (append-nil (padded z n (flat f xs)))) ∙ (add_row z n xs [] x b e h ∙ append-nil (padded z n (flat f (xs ++ x ∷ []))))

    pub get_row_end : (z : E) (d : A) (n : ℕ) (xs : List A) (i j : ℕ) → j < k → i < length xs → get_or (padded z n (flat f xs)) (k * i + j) z ≡ get_or (f (get_or xs i d)) j z
    get_row_end z d n xs i j p q = ap (λ l. get_or l (k * i + j) z) (sym (append-nil (padded z n (flat f xs)))) ∙ get-row z d n xs [] i j p q

    -- a row put in the place of another
    pub set-flat : (xs : List A) (rest : List E) (x : A) (i : ℕ) → i < length xs → stores (flat f xs ++ rest) (k * i) 0 (f x) ≡ flat f (set xs i x) ++ rest
    unfolding flat
    set-flat [] rest x i h = absurd (omega arith)
    set-flat (y ∷ ys) rest x zero h =
        let e : k * 0 ≡ 0 = omega arith in
        rw e (ap (λ l. stores l 0 0 (f x)) (append_assoc (f y) (flat f ys) rest) ∙ (stores-over [] (f y) (f x) (flat f ys ++ rest) 0 0 refl (wide y ∙ sym (wide x)) ∙ sym (append_assoc (f x) (flat f ys) rest)))
    set-flat (y ∷ ys) rest x (suc i) h =
        let e : k * suc i ≡ k + k * i = omega arith in
        rw e (ap (λ l. stores l (k + k * i) 0 (f x)) (append_assoc (f y) (flat f ys) rest) ∙ (stores-after (f y) (flat f ys ++ rest) k (k * i) 0 (f x) (wide y)
        ∙ (ap (λ l. f y ++ l) (set-flat ys rest x i (omega arith)) ∙ sym (append_assoc (f y) (flat f (set ys i x)) rest))))

    pub set-row : (z : E) (n : ℕ) (xs : List A) (rest : List E) (x : A) (i : ℕ) → i < length xs
        → stores (padded z n (flat f xs) ++ rest) (k * i) 0 (f x) ≡ padded z n (flat f (set xs i x)) ++ rest
    unfolding padded
    set-row z n xs rest x i h =
        let e : length (flat f (set xs i x)) ≡ length (flat f xs) = rw (length-flat (set xs i x), length-flat xs, length-set) in
        rw e (ap (λ l. stores l (k * i) 0 (f x)) (append_assoc (flat f xs) (replicate (n - length (flat f xs)) z) rest)
        ∙ (set-flat xs (replicate (n - length (flat f xs)) z ++ rest) x i h ∙ sym (append_assoc (flat f (set xs i x)) (replicate (n - length (flat f xs)) z) rest)))

    -- one number of a row put in the place of another: the row y has the others of row i
    pub set-one : (d : A) (xs : List A) (rest : List E) (y : A) (i j : ℕ) (v : E) → j < k → i < length xs → f y ≡ set (f (get_or xs i d)) j v
        → set (flat f xs ++ rest) (k * i + j) v ≡ flat f (set xs i y) ++ rest
    unfolding flat
    set-one d [] rest y i j v p q e = absurd (omega arith)
    set-one d (x ∷ xs) rest y zero j v p q e =
        let a : k * 0 + j ≡ j = omega arith in
        let h : j < length (f x) = rw wide p in
        rw a (ap (λ l. set l j v) (append_assoc (f x) (flat f xs) rest) ∙ (set-append_left (f x) (flat f xs ++ rest) j v h ∙ (ap (λ l. l ++ (flat f xs ++ rest)) (sym e) ∙ sym (append_assoc (f y) (flat f xs) rest))))
    set-one d (x ∷ xs) rest y (suc i) j v p q e =
        let a : k * suc i + j ≡ k + (k * i + j) = omega arith in
        rw a (ap (λ l. set l (k + (k * i + j)) v) (append_assoc (f x) (flat f xs) rest) ∙ (set_after (f x) (flat f xs ++ rest) k (k * i + j) v (wide x)
        ∙ (ap (λ l. f x ++ l) (set-one d xs rest y i j v p (omega arith) e) ∙ sym (append_assoc (f x) (flat f (set xs i y)) rest))))

    pub set-number : (z : E) (d : A) (n : ℕ) (xs : List A) (rest : List E) (y : A) (i j : ℕ) (v : E) → j < k → i < length xs → f y ≡ set (f (get_or xs i d)) j v
        → set (padded z n (flat f xs) ++ rest) (k * i + j) v ≡ padded z n (flat f (set xs i y)) ++ rest
    unfolding padded
    set-number z d n xs rest y i j v p q e =
        let h : length (flat f (set xs i y)) ≡ length (flat f xs) = rw (length-flat (set xs i y), length-flat xs, length-set) in
        rw h (ap (λ l. set l (k * i + j) v) (append_assoc (flat f xs) (replicate (n - length (flat f xs)) z) rest)
        ∙ (set-one d xs (replicate (n - length (flat f xs)) z ++ rest) y i j v p q e ∙ sym (append_assoc (flat f (set xs i y)) (replicate (n - length (flat f xs)) z) rest)))

-- A region: rows from number m on, before and after other numbers, n numbers in all. The code's indices are b, b + 1 ..
module _ {E : Type 0} where
  pub stored_is : (l : List E) (b : ℕ) (vs : List E) → stored l b vs ≡ stores l b 0 vs
  stored_is l b [] = refl
  stored_is l b (v ∷ vs) = let e : b + 0 ≡ b = omega arith in rw e

  -- numbers put over as many others
  module _ (l : List E) (b k : ℕ) (vs : List E) (p : k ≡ length vs) (q : b + k ≤ length l) where
    whole : take b l ++ (take (length vs) (drop b l) ++ drop k (drop b l)) ≡ l
    whole = rw p (ap (λ ys. take b l ++ ys) (take-append-drop (length vs) (drop b l)) ∙ take-append-drop b l)

    pub put-over : put_mid b k l vs ≡ stored l b vs
    put-over = sym (stored_is l b vs ∙ (ap (λ m. stores m b 0 vs) (sym whole)
        ∙ stores-over (take b l) (take (length vs) (drop b l)) vs (drop k (drop b l)) b 0 (simp length-take (omega arith)) (simp (length-take, length-drop) (omega arith))))

  -- a store past them
  pub stored-set : (l : List E) (b m : ℕ) (x : E) (vs : List E) → b + length vs ≤ m → set (stored l b vs) m x ≡ stored (set l m x) b vs
  stored-set l b m x vs p = ap (λ l. set l m x) (stored_is l b vs) ∙ (stores-set l b 0 m x vs (omega arith) ∙ sym (stored_is (set l m x) b vs))

module _ {A E : Type 0} (f : A → List E) (k : ℕ) (wide : (x : A) → length (f x) ≡ k) (z : E) (m n : ℕ) (pre post : List E) (long : length pre ≡ m) where
  abbrev pub region : List A → List E
  region xs = pre ++ (padded z n (flat f xs) ++ post)

  pub region-add : (xs : List A) (x : A) (b : ℕ) → b ≡ m + k * length xs → k * length xs + k ≤ n → stored (region xs) b (f x) ≡ region (xs ++ x ∷ [])
  region-add xs x b e h = stored_is (region xs) b (f x) ∙ rw e (stores-after pre (padded z n (flat f xs) ++ post) m (k * length xs) 0 (f x) long
      ∙ ap (λ l. pre ++ l) (add_row f k wide z n xs post x (k * length xs) refl h))

  pub region-put : (xs : List A) (x : A) (i b : ℕ) → b ≡ m + k * i → i < length xs → stored (region xs) b (f x) ≡ region (set xs i x)
  region-put xs x i b e h = stored_is (region xs) b (f x) ∙ rw e (stores-after pre (padded z n (flat f xs) ++ post) m (k * i) 0 (f x) long
      ∙ ap (λ l. pre ++ l) (set-row f k wide z n xs post x i h))

  module _ (d : A) where
    pub region-number : (xs : List A) (y : A) (i j b : ℕ) (v : E) → b ≡ m + (k * i + j) → j < k → i < length xs → f y ≡ set (f (get_or xs i d)) j v
        → set (region xs) b v ≡ region (set xs i y)
    region-number xs y i j b v e p q same = rw e (set_after pre (padded z n (flat f xs) ++ post) m (k * i + j) v long
        ∙ ap (λ l. pre ++ l) (set-number f k wide z d n xs post y i j v p q same))

    -- a number that is read: zeros stand after the last row
    pub region-get : (xs : List A) (i j b : ℕ) → b ≡ m + (k * i + j) → j < k → k * i + k ≤ n → k * length xs ≤ n → f d ≡ replicate k z → get_or (region xs) b z ≡ get_or (f (get_or xs i d)) j z
    unfolding padded
    region-get xs i j b e p q r blank = rw e (get_after pre (padded z n (flat f xs) ++ post) m (k * i + j) z long ∙ go (ltb i (length xs)) refl)
      where
        past : length xs ≤ i → get_or (padded z n (flat f xs) ++ post) (k * i + j) z ≡ get_or (f (get_or xs i d)) j z
        past h =
            let a : k * length xs ≤ k * i = mul-le-mul_left k h in
            let c : length (flat f xs) ≡ k * length xs = length-flat f k wide xs in
            let s : length (flat f xs) + (k * i + j - length (flat f xs)) ≡ k * i + j = omega arith in
            let l : k * i + j < length (flat f xs ++ replicate (n - length (flat f xs)) z) = rw (length-append, length-replicate) (omega arith) in
            get_or-append (flat f xs ++ replicate (n - length (flat f xs)) z) post z (k * i + j) l
            ∙ (ap (λ x. get_or (flat f xs ++ replicate (n - length (flat f xs)) z) x z) (sym s)
            ∙ (get_or-append-add (flat f xs) (replicate (n - length (flat f xs)) z) (k * i + j - length (flat f xs)) z
            ∙ (get_or-replicate (n - length (flat f xs)) (k * i + j - length (flat f xs)) z z (omega arith)
            ∙ sym (ap (λ x. get_or (f x) j z) (get_or-eq_default xs d h) ∙ (ap (λ x. get_or x j z) blank ∙ get_or-replicate k j z z p)))))

        go : (t : Bool) → ltb i (length xs) ≡ t → get_or (padded z n (flat f xs) ++ post) (k * i + j) z ≡ get_or (f (get_or xs i d)) j z
        go true t = get-row f k wide z d n xs post i j p (ltb-true _ _ t)
        go false t = past (ltb-false _ _ t)
