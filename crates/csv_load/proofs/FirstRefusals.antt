-- Going through numbered members up to the first refusal.
use Rattle.std.proofs.Common.{◌≡◌, ◌∙◌, ◌<◌, ◌≤◌, ◌+◌, ℕ, zero, suc, List, [], ◌∷◌, ◌++◌, append_assoc, length, map, drop, get_or, refl, sym, ap, arith}
use Rattle.std.specs.Prelude.{Result, Ok, Err}
use Rattle.std.specs.List.{enumerate_from}
use Rattle.std.proofs.lemmas.List.{append-nil, drop_more, drop_all}
use Rattle.csv_load.specs.FileTable.{all_ok}

-- members that are there in front of others, or the refusal of these
abbrev pub behind : {X E : Type 0} → List X → Result (List X) E → Result (List X) E
behind front (Ok xs) = Ok (front ++ xs)
behind front (Err e) = Err e

-- none in front
pub behind-none : {X E : Type 0} (r : Result (List X) E) → r ≡ behind [] r
behind-none (Ok xs) = refl
behind-none (Err e) = refl

-- one more in front
behind-front : {X E : Type 0} (front : List X) (x : X) (members : List (Result X E)) → behind front (all_ok (Ok x ∷ members)) ≡ behind (front ++ x ∷ []) (all_ok members)
behind-front {X} {E} front x members = by (all_ok members) refl
  where
    by : (r : Result (List X) E) → all_ok members ≡ r → behind front (all_ok (Ok x ∷ members)) ≡ behind (front ++ x ∷ []) (all_ok members)
    by (Ok xs) e = rw e (ap Ok (sym (append_assoc front (x ∷ []) xs)))
    by (Err r) e = rw e refl

module _ {X Y E : Type 0} (f : ℕ × X → Result Y E) where
  -- what is made of the members from the n-th on
  abbrev pub made : ℕ → List X → Result (List Y) E
  made n xs = all_ok (map f (enumerate_from n xs))

  -- the next member is there
  pub made-more : (said : Result (List Y) E) (front : List Y) (n : ℕ) (left rest : List X) (x : X) (y : Y)
      → said ≡ behind front (made n left) → left ≡ x ∷ rest → f (n, x) ≡ Ok y → said ≡ behind (front ++ y ∷ []) (made (n + 1) rest)
  made-more said front n left rest x y e is here = e ∙ rw (is, here) (behind-front front y (map f (enumerate_from (n + 1) rest)))

  -- the next member is refused
  pub made-stop : (said : Result (List Y) E) (front : List Y) (n : ℕ) (left rest : List X) (x : X) (e : E)
      → said ≡ behind front (made n left) → left ≡ x ∷ rest → f (n, x) ≡ Err e → said ≡ Err e
  made-stop said front n left rest x refusal e is here = e ∙ rw (is, here) refl

  -- no member is left
  pub made-end : (said : Result (List Y) E) (front : List Y) (n : ℕ) (left : List X) → said ≡ behind front (made n left) → left ≡ [] → said ≡ Ok front
  made-end said front n left e is = e ∙ rw is (ap Ok (append-nil front))

  -- the next place of a list that is gone through
  pub made-next : (said : Result (List Y) E) (front : List Y) (n : ℕ) (xs : List X) (d : X) (y : Y)
      → said ≡ behind front (made n (drop n xs)) → n < length xs → f (n, get_or xs n d) ≡ Ok y → said ≡ behind (front ++ y ∷ []) (made (n + 1) (drop (n + 1) xs))
  made-next said front n xs d y e lt here = made-more said front n (drop n xs) (drop (n + 1) xs) (get_or xs n d) y e (drop_more xs n d lt) here

  -- and where it is refused
  pub made-refused : (said : Result (List Y) E) (front : List Y) (n : ℕ) (xs : List X) (d : X) (e : E)
      → said ≡ behind front (made n (drop n xs)) → n < length xs → f (n, get_or xs n d) ≡ Err e → said ≡ Err e
  made-refused said front n xs d refusal e lt here = made-stop said front n (drop n xs) (drop (n + 1) xs) (get_or xs n d) refusal e (drop_more xs n d lt) here

  -- all places were gone through
  pub made-whole : (said : Result (List Y) E) (front : List Y) (n : ℕ) (xs : List X) → said ≡ behind front (made n (drop n xs)) → length xs ≤ n → said ≡ Ok front
  made-whole said front n xs e all = made-end said front n (drop n xs) e (drop_all n xs all)

  -- where all are there, each is
  pub made-at : (n : ℕ) (xs : List X) (ys : List Y) (i : ℕ) (d : X) (e : Y) → made n xs ≡ Ok ys → i < length xs → f (n + i, get_or xs i d) ≡ Ok (get_or ys i e)
  made-at n [] ys i d e h lt = absurd (omega arith)
  made-at n (x ∷ xs) ys i d e h lt = by (f (n, x)) refl (made (n + 1) xs) refl i lt (λ zs k m l. made-at (n + 1) xs zs k d e m l)
    where
      by : (o : Result Y E) → f (n, x) ≡ o → (r : Result (List Y) E) → made (n + 1) xs ≡ r → (j : ℕ) → j < length (x ∷ xs)
          → ((zs : List Y) (k : ℕ) → made (n + 1) xs ≡ Ok zs → k < length xs → f (n + 1 + k, get_or xs k d) ≡ Ok (get_or zs k e))
          → f (n + j, get_or (x ∷ xs) j d) ≡ Ok (get_or ys j e)
      by (Err a) p r q j l more = cc (rw p at h)
      by (Ok y) p (Err b) q j l more = cc (rw (p, q) at h)
      by (Ok y) p (Ok zs) q zero l more =
          let same : y ∷ zs ≡ ys = cc (rw (p, q) at h) in
          let here : n + 0 ≡ n = omega arith in
          rw (here, p, ← same) refl
      by (Ok y) p (Ok zs) q (suc k) l more =
          let same : y ∷ zs ≡ ys = cc (rw (p, q) at h) in
          let here : n + suc k ≡ n + 1 + k = omega arith in
          rw (here, ← same) (more zs k q (omega arith))

  -- and there are as many as places
  pub made-length : (n : ℕ) (xs : List X) (ys : List Y) → made n xs ≡ Ok ys → length ys ≡ length xs
  made-length n [] ys h = let same : [] ≡ ys = cc in rw (← same) refl
  made-length n (x ∷ xs) ys h = by (f (n, x)) refl (made (n + 1) xs) refl (λ zs m. made-length (n + 1) xs zs m)
    where
      by : (o : Result Y E) → f (n, x) ≡ o → (r : Result (List Y) E) → made (n + 1) xs ≡ r → ((zs : List Y) → made (n + 1) xs ≡ Ok zs → length zs ≡ length xs) → length ys ≡ length (x ∷ xs)
      by (Err a) p r q more = cc (rw p at h)
      by (Ok y) p (Err b) q more = cc (rw (p, q) at h)
      by (Ok y) p (Ok zs) q more = let same : y ∷ zs ≡ ys = cc (rw (p, q) at h) in rw (← same) (omega (arith, more zs q))
