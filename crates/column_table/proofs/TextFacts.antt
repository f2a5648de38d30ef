-- Texts whose bytes stand one after another.
use Rattle.std.proofs.Common.{◌≡◌, ◌∙◌, sym, refl, ap, ℕ, zero, suc, ◌-◌, ◌<◌, ◌≤◌, List, [], ◌∷◌, ◌++◌, length, get_or, take, drop, Some, arith, length-append, length-drop}
use Rattle.std.specs.Prelude.{slice_get}
use Rattle.std.specs.Str.{IsUtf8, is_utf8}
use Rattle.std.proofs.lemmas.List.{take-append-le, drop-append-le, take_all, drop_at, length-take-le, take-append-drop, get_or_default}
use Rattle.std.proofs.lemmas.Str.{is_utf8-from_IsUtf8, IsUtf8-from_is_utf8}
use Rattle.column_table.proofs.ListFacts.{all-take, all-push, all-at}
use Rattle.column_table.specs.Texts.{pieces, Rise, ArePieces}

-- there is a text for each end
pub length-pieces : (s : ℕ) (bytes ends : List ℕ) → length (pieces s bytes ends) ≡ length ends
length-pieces s bytes [] = refl
length-pieces s bytes (e ∷ ends) = ap suc (length-pieces e bytes ends)

-- the first ends give the first texts
pub take-pieces : (n s : ℕ) (bytes ends : List ℕ) → pieces s bytes (take n ends) ≡ take n (pieces s bytes ends)
take-pieces zero s bytes ends = refl
take-pieces (suc n) s bytes [] = refl
take-pieces (suc n) s bytes (e ∷ ends) = ap (λ ts. take (e - s) (drop s bytes) ∷ ts) (take-pieces n e bytes ends)

-- one text
pub piece-at : (s : ℕ) (bytes ends : List ℕ) (i : ℕ) → i < length ends
    → slice_get (pieces s bytes ends) i ≡ Some (take (get_or ends i 0 - get_or (s ∷ ends) i 0) (drop (get_or (s ∷ ends) i 0) bytes))
piece-at s bytes [] i h = absurd (omega arith)
piece-at s bytes (e ∷ ends) zero h = refl
piece-at s bytes (e ∷ ends) (suc i) h = piece-at e bytes ends i (omega arith)

-- where a text starts and ends
pub rise-at : (s : ℕ) (ends : List ℕ) (limit i : ℕ) → Rise s ends limit → i < length ends → (get_or (s ∷ ends) i 0 ≤ get_or ends i 0) × (get_or ends i 0 ≤ limit)
rise-at s [] limit i r h = absurd (omega arith)
rise-at s (e ∷ ends) limit zero r h = (r.0, rise-top e ends limit r.1)
  where
    rise-top : (s : ℕ) (ends : List ℕ) (limit : ℕ) → Rise s ends limit → s ≤ limit
    rise-top s [] limit r = r
    rise-top s (e ∷ ends) limit r = omega (arith, r.0, rise-top e ends limit r.1)
rise-at s (e ∷ ends) limit (suc i) r h = rise-at e ends limit i r.1 (omega arith)

-- the start of a text, or of the next one, is within the bytes
pub rise-start : (s : ℕ) (ends : List ℕ) (limit i : ℕ) → Rise s ends limit → i ≤ length ends → get_or (s ∷ ends) i 0 ≤ limit
rise-start s [] limit zero r h = r
rise-start s [] limit (suc i) r h = absurd (omega arith)
rise-start s (e ∷ ends) limit zero r h = omega (arith, r.0, rise-start e ends limit 0 r.1 (omega arith))
rise-start s (e ∷ ends) limit (suc i) r h = rise-start e ends limit i r.1 (omega arith)

-- the first ends rise up to where the next text would start
pub rise-take : (s : ℕ) (ends : List ℕ) (limit n : ℕ) → Rise s ends limit → n ≤ length ends → Rise s (take n ends) (get_or (s ∷ ends) n 0)
rise-take s ends limit zero r h = omega arith
rise-take s [] limit (suc n) r h = absurd (omega arith)
rise-take s (e ∷ ends) limit (suc n) r h = (r.0, rise-take e ends limit n r.1 (omega arith))

pub rise-wider : (s : ℕ) (ends : List ℕ) (a b : ℕ) → a ≤ b → Rise s ends a → Rise s ends b
rise-wider s [] a b le r = omega arith
rise-wider s (e ∷ ends) a b le r = (r.0, rise-wider e ends a b le r.1)

-- one end more
pub rise-push : (s : ℕ) (ends : List ℕ) (a b : ℕ) → a ≤ b → Rise s ends a → Rise s (ends ++ b ∷ []) b
rise-push s [] a b le r = (omega arith, omega arith)
rise-push s (e ∷ ends) a b le r = (r.0, rise-push e ends a b le r.1)

-- bytes past the last end belong to no text
pub pieces-more : (s : ℕ) (bytes more ends : List ℕ) → Rise s ends (length bytes) → pieces s (bytes ++ more) ends ≡ pieces s bytes ends
pieces-more s bytes more [] r = refl
pieces-more s bytes more (e ∷ ends) r =
    let le : e ≤ length bytes = rise-start e ends (length bytes) 0 r.1 (omega arith) in
    let first : take (e - s) (drop s (bytes ++ more)) ≡ take (e - s) (drop s bytes) =
    ap (take (e - s)) (drop-append-le s bytes more (omega (arith, r.0))) ∙ take-append-le (e - s) (drop s bytes) more (omega (arith, length-drop s bytes, r.0)) in
    rw (first, pieces-more e bytes more ends r.1) refl

-- one text more
pub pieces-push : (s : ℕ) (bytes text ends : List ℕ) → Rise s ends (length bytes) → get_or (s ∷ ends) (length ends) 0 ≡ length bytes
    → pieces s (bytes ++ text) (ends ++ length (bytes ++ text) ∷ []) ≡ pieces s bytes ends ++ text ∷ []
pieces-push s bytes text [] r e =
    let left : drop s (bytes ++ text) ≡ text = drop_at bytes text s (sym e) in
    let all : take (length (bytes ++ text) - s) text ≡ text = take_all _ text (omega (arith, length-append bytes text, e)) in
    rw (left, all) refl
pieces-push s bytes text (f ∷ ends) r e =
    let le : f ≤ length bytes = rise-start f ends (length bytes) 0 r.1 (omega arith) in
    let first : take (f - s) (drop s (bytes ++ text)) ≡ take (f - s) (drop s bytes) =
    ap (take (f - s)) (drop-append-le s bytes text (omega (arith, r.0))) ∙ take-append-le (f - s) (drop s bytes) text (omega (arith, length-drop s bytes, r.0)) in
    rw (first, pieces-push f bytes text ends r.1 e) refl

-- ---- a text is put after the first n

-- the last of the first ends
last-take : (s : ℕ) (ends : List ℕ) (n : ℕ) → n ≤ length ends → get_or (s ∷ take n ends) (length (take n ends)) 0 ≡ get_or (s ∷ ends) n 0
last-take s ends zero h = refl
last-take s [] (suc n) h = absurd (omega arith)
last-take s (e ∷ ends) (suc n) h = last-take e ends n (omega arith)

-- these bytes and ends show these texts, and the next text would start where the bytes end
pub record Shows (bytes ends : List ℕ) (texts : List (List ℕ)) : Type 0 where
  pub are : ArePieces bytes ends
  pub texts_are : pieces 0 bytes ends ≡ texts

pub record ShowsTight (bytes ends : List ℕ) (texts : List (List ℕ)) : Type 0 where
  pub are : ArePieces bytes ends
  pub texts_are : pieces 0 bytes ends ≡ texts
  pub tight : get_or (0 ∷ ends) (length ends) 0 ≡ length bytes

-- what is left of the first n texts
pub shows-cut : (bytes ends : List ℕ) (n : ℕ) → ArePieces bytes ends → n ≤ length ends
    → ShowsTight (take (get_or (0 ∷ ends) n 0) bytes) (take n ends) (take n (pieces 0 bytes ends))
shows-cut bytes ends n h within =
    let start : ℕ = get_or (0 ∷ ends) n 0 in
    let front : List ℕ = take start bytes in
    let long : length front ≡ start = length-take-le start bytes (rise-start 0 ends (length bytes) n h.rise within) in
    let rise : Rise 0 (take n ends) (length front) = rw long (rise-take 0 ends (length bytes) n h.rise within) in
    let same : pieces 0 front (take n ends) ≡ take n (pieces 0 bytes ends) =
    sym (pieces-more 0 front (drop start bytes) (take n ends) rise)
    ∙ ap (λ b. pieces 0 b (take n ends)) (take-append-drop start bytes) ∙ take-pieces n 0 bytes ends in
    record {
      are = record { rise = rise; utf8 = rw same (all-take is_utf8 n (pieces 0 bytes ends) h.utf8) };
      texts_are = same;
      tight = last-take 0 ends n within ∙ sym long;
    }

-- bytes that belong to no text yet
pub shows-more : (bytes text ends : List ℕ) (texts : List (List ℕ)) → ShowsTight bytes ends texts → Shows (bytes ++ text) ends texts
shows-more bytes text ends texts h =
    let same : pieces 0 (bytes ++ text) ends ≡ texts = pieces-more 0 bytes text ends h.are.rise ∙ h.texts_are in
    record {
      are = record {
        rise = rise-wider 0 ends (length bytes) (length (bytes ++ text)) (omega (arith, length-append bytes text)) h.are.rise;
        utf8 = rw same (rw h.texts_are at h.are.utf8);
      };
      texts_are = same;
    }

-- one text more
pub shows-push : (bytes text ends : List ℕ) (texts : List (List ℕ)) → ShowsTight bytes ends texts → IsUtf8 text
    → Shows (bytes ++ text) (ends ++ length (bytes ++ text) ∷ []) (texts ++ text ∷ [])
shows-push bytes text ends texts h u =
    let same : pieces 0 (bytes ++ text) (ends ++ length (bytes ++ text) ∷ []) ≡ texts ++ text ∷ [] =
    pieces-push 0 bytes text ends h.are.rise h.tight ∙ ap (λ ts. ts ++ text ∷ []) h.texts_are in
    record {
      are = record {
        rise = rise-push 0 ends (length bytes) (length (bytes ++ text)) (omega (arith, length-append bytes text)) h.are.rise;
        utf8 = rw same (all-push is_utf8 texts text (rw h.texts_are at h.are.utf8) (is_utf8-from_IsUtf8 text u));
      };
      texts_are = same;
    }

-- the same, as the code leaves the bytes and the ends
pub tight-cut : (bytes ends : List ℕ) (texts : List (List ℕ)) (n start : ℕ) (b e : List ℕ) → ArePieces bytes ends → pieces 0 bytes ends ≡ texts → n ≤ length texts
    → start ≡ get_or (0 ∷ ends) n 0 → b ≡ take start bytes → e ≡ take n ends → ShowsTight b e (take n texts)
tight-cut bytes ends texts n start b e h same within from front first =
    rw (front, first, from, ← same) (shows-cut bytes ends n h (omega (arith, ap length same, length-pieces 0 bytes ends)))

-- ---- a text is read

-- where the text with this number lies
pub record LiesAt (bytes ends : List ℕ) (texts : List (List ℕ)) (i start end : ℕ) : Type 0 where
  pub rises : start ≤ end
  pub within : end ≤ length bytes
  pub text : slice_get texts i ≡ Some (take (end - start) (drop start bytes))
  pub utf8 : IsUtf8 (take (end - start) (drop start bytes))

pub as-many : (bytes ends : List ℕ) (texts : List (List ℕ)) → pieces 0 bytes ends ≡ texts → length texts ≡ length ends
as-many bytes ends texts e = ap length (sym e) ∙ length-pieces 0 bytes ends

pub lies-at : (bytes ends : List ℕ) (texts : List (List ℕ)) (i start end : ℕ) → ArePieces bytes ends → pieces 0 bytes ends ≡ texts → i < length texts
    → start ≡ get_or (0 ∷ ends) i 0 → end ≡ get_or ends i end → LiesAt bytes ends texts i start end
lies-at bytes ends texts i start end h e lt from to =
    let within : i < length ends = omega (arith, as-many bytes ends texts e) in
    let place : end ≡ get_or ends i 0 = to ∙ get_or_default ends i end 0 within in
    let rise = rise-at 0 ends (length bytes) i h.rise within in
    let text : slice_get texts i ≡ Some (take (end - start) (drop start bytes)) = rw (← e, from, place) (piece-at 0 bytes ends i within) in
    record {
      rises = rw (from, place) rise.0;
      within = rw place rise.1;
      text = text;
      utf8 = IsUtf8-from_is_utf8 _ (all-at is_utf8 texts i _ (rw e at h.utf8) text);
    }
