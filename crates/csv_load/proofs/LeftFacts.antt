-- What a read does to the records that are left.
use Rattle.std.proofs.Common.{Bor, ◌≡◌, ◌<◌, ◌+◌, ◌-◌, ℕ, zero, suc, Bool, true, false, not, List, [], ◌∷◌, length, Option, Some, None, IsSome, MatchBool, refl, ap, ◌∙◌, inl, inr, arith, rules}
use Rattle.csv.specs.Machine.{Read, ends_at_end, next_record}
use Rattle.csv.specs.Reading.{NextIs, ReadRecord, ReadsNext, Ready, default_config, ExplainsRead, is_flexible, pending_of, stops_reader, reader_trim, records_from, records_next, took_first}
use Rattle.csv.specs.declared.parser.Config.{Config}
use Rattle.csv.specs.declared.parser.State.{State}
use Rattle.csv.specs.declared.reader.Reader.{Reader}
use Rattle.csv.specs.declared.error.ErrorKind.{ErrorKind}
use Rattle.csv.specs.declared.error.ErrorKind.TheVariants as kind
use Rattle.csv.specs.declared.reader.Trim.TheVariants as trim
use Rattle.csv_load.specs.Left.{IsReading, ReadsAll, left_of, records_left, slice_source}
use Rattle.csv_load.proofs.MachineFacts.{Leaves, next-leaves, quiet-none}

-- more turns than bytes give no more records
pub enough : (cfg : Config) (n m : ℕ) (s : State) (y : List ℕ) → ends_at_end s ≡ false → length y < n → length y < m → records_from cfg n s y ≡ records_from cfg m s y
unfolding records_from
enough cfg zero m s y q a b = absurd (omega arith)
enough cfg (suc n) zero s y q a b = absurd (omega arith)
enough cfg (suc n) (suc m) s [] q a b = by (next_record cfg s [] [] []) refl
  where
    by : (o : Option Read) → next_record cfg s [] [] [] ≡ o → records_next (records_from cfg n) (next_record cfg s [] [] []) ≡ records_next (records_from cfg m) (next_record cfg s [] [] [])
    by None e = rw e refl
    by (Some p) e = absurd (quiet-none cfg s p q e)
enough cfg (suc n) (suc m) s (x ∷ y) q a b = by (next_record cfg s [] [] (x ∷ y)) refl (λ s2 y2. enough cfg n m s2 y2)
  where
    by : (o : Option Read) → next_record cfg s [] [] (x ∷ y) ≡ o
        → ((s2 : State) (y2 : List ℕ) → ends_at_end s2 ≡ false → length y2 < n → length y2 < m → records_from cfg n s2 y2 ≡ records_from cfg m s2 y2)
        → records_next (records_from cfg n) (next_record cfg s [] [] (x ∷ y)) ≡ records_next (records_from cfg m) (next_record cfg s [] [] (x ∷ y))
    by None e more = rw e refl
    by (Some p) e more =
        let left : Leaves p (length (x ∷ y) - 1) = next-leaves cfg s [] [] (x ∷ y) p e in
        rw e (ap (λ (t : List (List (List ℕ))). p.0 ∷ t) (more p.1 p.2 left.0 (omega (arith, left.1)) (omega (arith, left.1))))

-- the next record of a text, and then the rest
left-more : (s : State) (y : List ℕ) (p : Read) → ends_at_end s ≡ false → next_record default_config s [] [] y ≡ Some p
    → (records_left s (Some y) ≡ p.0 ∷ records_left p.1 (Some p.2)) × (ends_at_end p.1 ≡ false)
unfolding records_from
left-more s [] p q e = absurd (quiet-none default_config s p q e)
left-more s (x ∷ y) p q e =
    let left : Leaves p (length (x ∷ y) - 1) = next-leaves default_config s [] [] (x ∷ y) p e in
    let fuel : length (x ∷ y) + 1 ≡ suc (length y + 1) = omega arith in
    (rw (fuel, e) (ap (λ (t : List (List (List ℕ))). p.0 ∷ t) (enough default_config (length y + 1) (length p.2 + 1) p.1 p.2 left.0 (omega (arith, left.1)) (omega arith))), left.0)

-- where there is no next record, none is left
left-none : (s : State) (y : List ℕ) → next_record default_config s [] [] y ≡ None → records_left s (Some y) ≡ []
unfolding records_from
left-none s y e = let fuel : length y + 1 ≡ suc (length y) = omega arith in rw (fuel, e) refl

-- a read from known bytes: a record and what is left after it, or no record
read-known : (s s2 : State) (y : List ℕ) (after : Option (List ℕ)) (found : Bool) (f : List (List ℕ)) → ends_at_end s ≡ false → ReadsNext default_config s (Some y) after found f s2
    → MatchBool found ((records_left s (Some y) ≡ f ∷ records_left s2 after) × (ends_at_end s2 ≡ false) × IsSome after) (records_left s (Some y) ≡ [])
read-known s s2 y None found f q h = absurd h
read-known s s2 y (Some z) found f q h = by (next_record default_config s [] [] y) refl found (λ o e. h)
  where
    by : (o : Option Read) → next_record default_config s [] [] y ≡ o → (b : Bool) → ((o : Option Read) → next_record default_config s [] [] y ≡ o → NextIs (next_record default_config s [] [] y) b f s2 z)
        → MatchBool b ((records_left s (Some y) ≡ f ∷ records_left s2 (Some z)) × (ends_at_end s2 ≡ false) × IsSome (Some z)) (records_left s (Some y) ≡ [])
    by None e true n = cc (rw e at (n None e))
    by None e false n = left-none s y e
    by (Some p) e true n =
        let (found, fields, state, rest) = rw e at (n (Some p) e) in
        let more = left-more s y p q e in
        (more.0 ∙ rw (fields, state, rest) refl, rw state more.1, search rules)
    by (Some p) e false n = cc (rw e at (n (Some p) e)).0

-- after its first read a reader has left what its buffer and the slice have
source-begun : (b : Reader (Bor (List ℕ))) → b.bom_checked ≡ true → slice_source b ≡ pending_of (Some b.rdr.now) b
source-begun b e = rw e refl

-- a read of a reader of every record: the first of those left, and then the others are left
pub read-left : (a b : Reader (Bor (List ℕ))) (found : Bool) (f : List (List ℕ)) → ReadsAll a → ReadRecord (λ s. Some s.now) a b found f → took_first b ≡ true → is_flexible b ≡ is_flexible a
    → MatchBool found ((left_of false a ≡ f ∷ left_of false b) × ReadsAll b) (left_of false a ≡ [])
read-left a b found f (plain, ready, config, quiet, known, loose) h first same = by (slice_source a) refl known
  where
    at_known : (y : List ℕ) → slice_source a ≡ Some y
        → MatchBool found ((records_left a.state (Some y) ≡ f ∷ records_left b.state (slice_source b)) × (ends_at_end b.state ≡ false) × IsSome (slice_source b)) (records_left a.state (Some y) ≡ [])
    at_known y e = rw (source-begun b h.1) (read-known a.state b.state y (pending_of (Some b.rdr.now) b) found f quiet (rw (config, e) at h.0))

    split : (d : Bool) (y : List ℕ) → slice_source a ≡ Some y
        → MatchBool d ((records_left a.state (Some y) ≡ f ∷ records_left b.state (slice_source b)) × (ends_at_end b.state ≡ false) × IsSome (slice_source b)) (records_left a.state (Some y) ≡ [])
        → MatchBool d ((left_of false a ≡ f ∷ left_of false b) × ReadsAll b) (left_of false a ≡ [])
    split true y e m = (rw e m.0, (h.3 ∙ plain, inl first, h.2 ∙ config, m.1, m.2, same ∙ loose))
    split false y e m = rw e m

    by : (o : Option (List ℕ)) → slice_source a ≡ o → IsSome o → MatchBool found ((left_of false a ≡ f ∷ left_of false b) × ReadsAll b) (left_of false a ≡ [])
    by None e k = absurd (search rules)
    by (Some y) e k = split found y e (at_known y e)

-- a reader that is not done reads on
pub still : (done : Bool) (r : Reader (Bor (List ℕ))) → done ≡ false → IsReading done r → ReadsAll r
still done r e (inl d) = cc
still done r e (inr a) = a

-- the same, with the note of whether the reader is done
pub read-noted : (a b : Reader (Bor (List ℕ))) (done found : Bool) (f : List (List ℕ)) → done ≡ false → IsReading done a
    → (reader_trim a ≡ trim.None → Ready a → ReadRecord (λ s. Some s.now) a b found f) → (reader_trim a ≡ trim.None → took_first b ≡ true) → is_flexible b ≡ is_flexible a
    → MatchBool found (left_of done a ≡ f ∷ left_of (not found) b) ((left_of done a ≡ []) × (left_of (not found) b ≡ [])) × IsReading (not found) b
read-noted a b done found f e r h first same = let all = still done a e r in rw e (by found (read-left a b found f all (h all.0 all.1) (first all.0) same))
  where
    by : (d : Bool) → MatchBool d ((left_of false a ≡ f ∷ left_of false b) × ReadsAll b) (left_of false a ≡ [])
        → MatchBool d (left_of false a ≡ f ∷ left_of (not d) b) ((left_of false a ≡ []) × (left_of (not d) b ≡ [])) × IsReading (not d) b
    by true m = (m.0, inr m.1)
    by false m = ((m, refl), inl refl)

-- a read of bytes, of records of any length, fails only for the reader underneath or for memory
pub explains-stops : {R : Type 0} (rem : R → Option (List ℕ)) (a b : Reader R) (k : ErrorKind) → is_flexible a ≡ true → ExplainsRead rem a b false k → stops_reader k ≡ true
explains-stops rem a b (kind.Io e) loose h = refl
explains-stops rem a b kind.OutOfMemory loose h = refl
explains-stops rem a b (kind.UnequalLengths pos expected len) loose h = cc (h.0, loose)
explains-stops rem a b (kind.Utf8 pos err) loose h = cc h.0
explains-stops rem a b (kind.Serialize why) loose h = absurd h
explains-stops rem a b (kind.Deserialize pos err) loose h = absurd h
