-- Items by the hashes of their keys.
-- Words of this crate's own contracts.
use Rattle.key_codes.specs.Placement.{Places}
use Rattle.bloom_block.specs.Hashes.{bloom_places}
use Rattle.bloom_block.specs.declared.bloom.Bloom as hashes

abbrev pub seen_hashes : hashes.Bloom → Places
seen_hashes it = bloom_places it.hashes.items
