-- Lists and loops that the definitions are written with.
use Rattle.std.specs.Prelude.{Bool, true, false, cond, ◌&&◌, ℕ, zero, suc, min, take, drop}
use mathlib.Core.List.{List, [], ◌∷◌, ◌++◌, foldr}

-- i, i + 1, .., n of them
abbrev pub count_from : ℕ → ℕ → List ℕ
count_from i zero = []
count_from i (suc n) = i ∷ count_from (suc i) n

-- 0, 1, .. n - 1
abbrev pub up_to : ℕ → List ℕ
up_to n = count_from 0 n

-- the members that pass a test, in their order
abbrev pub keep : {A : Type 0} → (A → Bool) → List A → List A
keep p [] = []
keep p (x ∷ l) = cond (p x) (x ∷ keep p l) (keep p l)

-- the lists f x, for each member x, end to end
abbrev pub each : {A B : Type 0} → (A → List B) → List A → List B
each f [] = []
each f (x ∷ l) = f x ++ each f l

-- the members other than the one at place n
abbrev pub others : {A : Type 0} → ℕ → List A → List A
others n [] = []
others zero (c ∷ cs) = cs
others (suc n) (c ∷ cs) = c ∷ others n cs

-- x put in at place n
abbrev pub put : ℕ → ℕ → List ℕ → List ℕ
put zero x w = x ∷ w
put (suc n) x [] = x ∷ []
put (suc n) x (y ∷ w) = y ∷ put n x w

-- the least member; 0 where there is none
abbrev pub smallest : List ℕ → ℕ
smallest [] = 0
smallest (x ∷ l) = foldr min x l

-- the first member that passes a test; 0 where there is none
abbrev pub first_of : (ℕ → Bool) → List ℕ → ℕ
first_of p [] = 0
first_of p (x ∷ l) = cond (p x) x (first_of p l)

-- a or b, by a test; at any level, so that it serves for types too
abbrev pub pick {ℓ} : {A : Type ℓ} → Bool → A → A → A
pick true a b = a
pick false a b = b

-- the state after the first n turns of a loop whose turn i is f i
abbrev pub upto {ℓ} : {A : Type ℓ} → (ℕ → A → A) → ℕ → A → A
upto f zero s = s
upto f (suc n) s = f n (upto f n s)

-- the test holds at each number below n
abbrev pub all_to : (ℕ → Bool) → ℕ → Bool
all_to f zero = true
all_to f (suc n) = all_to f n && f n

-- f 0, .., f (n - 1)
abbrev pub tab : (ℕ → ℕ) → ℕ → List ℕ
tab f zero = []
tab f (suc n) = tab f n ++ (f n ∷ [])

-- the lists f 0, .., f (n - 1) end to end
abbrev pub blocks : (ℕ → List ℕ) → ℕ → List ℕ
blocks f zero = []
blocks f (suc n) = blocks f n ++ f n

-- the n elements of l from place a on
abbrev pub part : List ℕ → ℕ → ℕ → List ℕ
part l a n = take n (drop a l)

-- l with the n elements from place a on replaced by s
abbrev pub patch : List ℕ → ℕ → ℕ → List ℕ → List ℕ
patch l a n s = take a l ++ (s ++ drop n (drop a l))
