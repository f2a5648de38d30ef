-- Places of any kind are seen as those that they hold.
-- Words of this crate's own contracts.
use Rattle.key_codes.specs.Placement.{IsLawful, Places}
use Rattle.bloom_block.specs.Bloom.{seen_hashes}
use Rattle.bloom_block.specs.Laws.{lawful_hashes}
use Rattle.exact_filter.specs.Exact.{seen_codes, seen_rows}
use Rattle.exact_filter.specs.Laws.{lawful_codes, lawful_rows}
use Rattle.rpt_engine.specs.declared.places.AnyPlace.{AnyPlace}
use Rattle.rpt_engine.specs.declared.places.AnyPlace.TheVariants as place

abbrev pub places_of : AnyPlace → Places
places_of (place.Bloom it) = seen_hashes it
places_of (place.Exact it) = seen_codes it
places_of (place.Rows it) = seen_rows it

pub lawful_places : (it : AnyPlace) → IsLawful (places_of it)
lawful_places (place.Bloom it) = lawful_hashes it
lawful_places (place.Exact it) = lawful_codes it
lawful_places (place.Rows it) = lawful_rows it
