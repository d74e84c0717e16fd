-- What stands at a place of a queue, and the queue after a push and a pop.
use Rattle.std.proofs.Common.{◌≡◌, ℕ, zero, suc, ◌+◌, ◌-◌, ◌%◌, ◌<◌, ◌≤◌, List, [], ◌∷◌, ◌++◌, length, drop, get_or, sym, ap, ◌∙◌, inl, inr, arith, mod-eq_of_lt, get_or-set_other, get_or-set_same, length-set, length-append, length-drop}
use Rattle.std.proofs.Math.Nat.{mod-eq-sub-mod, mod-add-mod, mod-lt}
use Rattle.std.proofs.Math.Seq.{get_or-append_seam}
use Rattle.std.proofs.lemmas.List.{ext_get_or, get_or-take, get_or-drop, get_or_append_left, get_or-append-add, length-take-le}
use Rattle.std.proofs.lemmas.Bool.{cases_lt}
use Rattle.fifo.specs.Queue.{Lying, held, place, joined, rest}

-- A step round n places, from one of them.
wraps : (n a : ℕ) → n ≤ a → a < n + n → a % n ≡ a - n
wraps n a le lt = mod-eq-sub-mod le ∙ mod-eq_of_lt (omega arith)

-- Two places are not one.
apart : (n a b : ℕ) → a < b → b < a + n → b < n + n → a % n ≡ b % n → ⊥
apart n a b ab near lt e = elim (cases_lt a n) as (λ _. ⊥) [
  | inl la ↦ elim (cases_lt b n) as (λ _. ⊥) [
    | inl lb ↦ absurd (omega (arith, e, mod-eq_of_lt la, mod-eq_of_lt lb))
    | inr gb ↦ absurd (omega (arith, e, mod-eq_of_lt la, wraps n b gb lt))
  ]
  | inr ga ↦ absurd (omega (arith, e, wraps n a ga (omega arith), wraps n b (omega arith) lt))
]

module _ {X : Type 0} (d : X) where
  round : (xs : List X) (h i : ℕ) → h < length xs → i < length xs → get_or (drop h xs ++ xs) i d ≡ get_or xs ((h + i) % length xs) d
  round xs h i lh li =
      let long : length (drop h xs) ≡ length xs - h = length-drop h xs in
      elim (cases_lt (h + i) (length xs)) as (λ _. get_or (drop h xs ++ xs) i d ≡ get_or xs ((h + i) % length xs) d) [
        | inl lt ↦ get_or_append_left (drop h xs) xs d i (omega arith) ∙ get_or-drop h xs i d ∙ ap (λ (k : ℕ). get_or xs k d) (sym (mod-eq_of_lt lt))
        | inr ge ↦
            let seam : i ≡ length (drop h xs) + (h + i - length xs) = omega arith in
            ap (λ (k : ℕ). get_or (drop h xs ++ xs) k d) seam
            ∙ get_or-append-add (drop h xs) xs (h + i - length xs) d
            ∙ ap (λ (k : ℕ). get_or xs k d) (sym (wraps (length xs) (h + i) ge (omega arith)))
      ]

  -- the element so far from the oldest
  pub element : (q : Lying X) (i : ℕ) → q.head < length q.slots → q.count ≤ length q.slots → i < q.count → get_or (held q) i d ≡ get_or q.slots (place i q) d
  element q i lh lc li = get_or-take q.count (drop q.head q.slots ++ q.slots) i d li ∙ round q.slots q.head i lh (omega arith)

  pub many : (q : Lying X) → q.count ≤ length q.slots → length (held q) ≡ q.count
  many q lc = length-take-le q.count (drop q.head q.slots ++ q.slots) (omega (arith, length-append (drop q.head q.slots) q.slots))

-- A push: the elements that were there, and the new one.
module _ {X : Type 0} (x : X) (q : Lying X) (lh : q.head < length q.slots) (lc : q.count < length q.slots) where
  joined_at : (i : ℕ) → i < q.count + 1 → get_or (held (joined x q)) i x ≡ get_or (held q ++ x ∷ []) i x
  joined_at i li =
      let within : place q.count q < length q.slots = mod-lt (q.head + q.count) (omega arith) in
      let same : length (joined x q).slots ≡ length q.slots = length-set q.slots (place q.count q) x in
      let at : get_or (held (joined x q)) i x ≡ get_or (joined x q).slots (place i q) x = element x (joined x q) i (omega arith) (omega arith) li ∙ ap (λ (n : ℕ). get_or (joined x q).slots ((q.head + i) % n) x) same in
      elim (cases_lt i q.count) as (λ _. get_or (held (joined x q)) i x ≡ get_or (held q ++ x ∷ []) i x) [
        | inl lt ↦ at
            ∙ get_or-set_other q.slots (place q.count q) (place i q) x x (apart (length q.slots) (q.head + i) (q.head + q.count) (omega arith) (omega arith) (omega arith))
            ∙ sym (element x q i lh (omega arith) lt)
            ∙ sym (get_or_append_left (held q) (x ∷ []) x i (omega (arith, many x q (omega arith))))
        | inr ge ↦
            let last : i ≡ q.count = omega arith in
            at ∙ ap (λ (k : ℕ). get_or (joined x q).slots (place k q) x) last ∙ get_or-set_same q.slots (place q.count q) x x within
            ∙ sym (ap (λ (k : ℕ). get_or (held q ++ x ∷ []) k x) (last ∙ sym (many x q (omega arith))) ∙ get_or-append_seam (held q) x [] x)
      ]

  pub held_joined : held (joined x q) ≡ held q ++ x ∷ []
  held_joined =
      let same : length (joined x q).slots ≡ length q.slots = length-set q.slots (place q.count q) x in
      let long : length (held (joined x q)) ≡ q.count + 1 = many x (joined x q) (omega arith) in
      ext_get_or x (held (joined x q)) (held q ++ x ∷ [])
      (omega (arith, long, length-append (held q) (x ∷ []), many x q (omega arith)))
      (λ i li. joined_at i (omega arith))

-- A pop: the oldest element in front of the others.
module _ {X : Type 0} (x : X) (q : Lying X) (lh : q.head < length q.slots) (lc : q.count ≤ length q.slots) (any : 0 < q.count) where
  rest_at : (i : ℕ) → i < q.count → get_or (held q) i x ≡ get_or (get_or q.slots q.head x ∷ held (rest q)) i x
  rest_at zero li = element x q zero lh lc li ∙ ap (λ (k : ℕ). get_or q.slots k x) (ap (λ (k : ℕ). k % length q.slots) (omega arith) ∙ mod-eq_of_lt lh)
  rest_at (suc i) li =
      let below : place 1 q < length q.slots = mod-lt (q.head + 1) (omega arith) in
      element x q (suc i) lh lc li
      ∙ ap (λ (k : ℕ). get_or q.slots k x) (ap (λ (k : ℕ). k % length q.slots) (omega arith) ∙ sym (mod-add-mod (q.head + 1) (length q.slots) i))
      ∙ sym (element x (rest q) i below (omega arith) (omega arith))

  pub held_rest : held q ≡ get_or q.slots q.head x ∷ held (rest q)
  held_rest =
      let long : length (held (rest q)) ≡ q.count - 1 = many x (rest q) (omega arith) in
      ext_get_or x (held q) (get_or q.slots q.head x ∷ held (rest q))
      (omega (arith, long, many x q lc))
      (λ i li. rest_at i (omega (arith, many x q lc)))
