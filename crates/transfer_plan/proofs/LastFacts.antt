-- What is written last with a placement.
use Rattle.std.proofs.Common.{◌≡◌, ℕ, ◌+◌, ◌<◌, ◌==◌, List, [], ◌∷◌, ◌++◌, length, filter, map, take, get_or, Bool, true, false, cond, if◌then◌else◌, refl, ap, ◌∙◌}
use Rattle.std.proofs.lemmas.List.{append-nil, map-append, take_more}
use Rattle.std.proofs.lemmas.List.Concat.{flat_map-append}
use Rattle.std.proofs.lemmas.List.Elements.{filter-append}
use Rattle.transfer_core.specs.declared.plan.Pipe.{Pipe}
use Rattle.transfer_core.specs.declared.plan.Port.{Port}
use Rattle.transfer_plan.specs.Kept.{Written, last_of, written_by, written_with}

pub last-append : {A : Type 0} (d : A) (xs ys : List A) → last_of d (xs ++ ys) ≡ last_of (last_of d xs) ys
last-append d [] ys = refl
last-append d (x ∷ xs) ys = last-append x xs ys

-- what a port more writes
pub last-port : (places items : ℕ) (a : Port) (ports : List Port) (w : Written)
    → last_of w (written_by places items (a ∷ ports)) ≡ last_of (if a.places == places then record { region = a.region; items = items } else w) (written_by places items ports)
last-port places items a ports w = by (a.places == places)
  where
    by : (b : Bool) → last_of w (map (λ (c : Port). record { region = c.region; items = items }) (cond b (a ∷ filter (λ c. c.places == places) ports) (filter (λ c. c.places == places) ports)))
        ≡ last_of (if b then record { region = a.region; items = items } else w) (written_by places items ports)
    by true = refl
    by false = refl

-- what pipes more write
pub last-pipes : (places : ℕ) (xs ys : List Pipe) (w : Written) → last_of w (written_with places (xs ++ ys)) ≡ last_of (last_of w (written_with places xs)) (written_with places ys)
last-pipes places xs ys w = ap (last_of w) (flat_map-append (λ x. written_by places x.items x.writes) xs ys) ∙ last-append w (written_with places xs) (written_with places ys)

pub last-pipe : (places : ℕ) (x : Pipe) (pipes : List Pipe) (w : Written) → last_of w (written_with places (x ∷ pipes)) ≡ last_of (last_of w (written_by places x.items x.writes)) (written_with places pipes)
last-pipe places x pipes w = last-append w (written_by places x.items x.writes) (written_with places pipes)

-- the same of the first ports and pipes of a list
pub ports-more : (places items : ℕ) (ports : List Port) (i : ℕ) (d : Port) (w : Written) → i < length ports
    → last_of w (written_by places items (take (i + 1) ports)) ≡ (if (get_or ports i d).places == places then record { region = (get_or ports i d).region; items = items } else last_of w (written_by places items (take i ports)))
ports-more places items ports i d w less =
    ap (λ (l : List Port). last_of w (written_by places items l)) (take_more ports i d less)
    ∙ ap (λ (l : List Port). last_of w (map (λ (c : Port). record { region = c.region; items = items }) l)) (filter-append (λ (c : Port). c.places == places) (take i ports) (get_or ports i d ∷ []))
    ∙ ap (last_of w) (map-append (λ (c : Port). record { region = c.region; items = items }) (filter (λ c. c.places == places) (take i ports)) (filter (λ c. c.places == places) (get_or ports i d ∷ [])))
    ∙ last-append w (written_by places items (take i ports)) (written_by places items (get_or ports i d ∷ []))
    ∙ last-port places items (get_or ports i d) [] (last_of w (written_by places items (take i ports)))

pub pipes-more : (places : ℕ) (pipes : List Pipe) (i : ℕ) (d : Pipe) (w : Written) → i < length pipes
    → last_of w (written_with places (take (i + 1) pipes)) ≡ last_of (last_of w (written_with places (take i pipes))) (written_by places (get_or pipes i d).items (get_or pipes i d).writes)
pipes-more places pipes i d w less =
    let x = get_or pipes i d in
    ap (λ (l : List Pipe). last_of w (written_with places l)) (take_more pipes i d less)
    ∙ last-pipes places (take i pipes) (x ∷ []) w
    ∙ ap (last_of (last_of w (written_with places (take i pipes)))) (append-nil (written_by places x.items x.writes))
