use Rattle.std.proofs.Common.{◌≡◌, ◌++◌, length, map}
use Rattle.std.specs.Vec.Iter.{into_iter_items, into_iter_len}
use Rattle.sample_gen.specs.Tables.{named_text}
use Rattle.rpt_cli.proofs.SampleFacts.{file_of, named_file}
use Rattle.rpt_cli.proofs.sample.files_in.Given as goal

-- the files, and those that are still to be made, are those of all tables
abbrev pub invariant-loop-name : goal.invariant-loop-name
invariant-loop-name l = record {
  files : map named_file l.files.items ++ map (file_of l.folder) (map named_text (into_iter_items l.name-iterator)) ≡ map (file_of l.folder) (map named_text l.fn.tables.items);
  left : length (into_iter_items l.name-iterator) ≡ into_iter_len l.name-iterator;
}
