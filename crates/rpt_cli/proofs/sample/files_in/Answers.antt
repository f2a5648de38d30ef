use Rattle.std.proofs.Common.{◌≡◌, ◌∙◌, ◌++◌, [], Some, ap, map, sym, arith}
use Rattle.std.proofs.lemmas.Grind.{common_steps}
use Rattle.std.specs.Vec.Iter.{into_iter_items}
use Rattle.std.proofs.lemmas.List.{append-nil, nil_from_length}
use Rattle.sample_gen.specs.Tables.{named_text}
use Rattle.rpt_cli.proofs.SampleFacts.{file_of, held-file_bytes, named_file}
use Rattle.rpt_cli.proofs.sample.files_in.Goals as goal

pub returns : goal.returns
returns c =
    let folder = c.args.folder.now in
    let made = map named_file c.loop-name.files.items in
    let none : into_iter_items c.loop-name.name-iterator ≡ [] = nil_from_length _ (c.loop-name.invariant.left ∙ c.in-None.ensures.steps.0) in
    let all : made ≡ map (file_of folder) (map named_text c.args.tables.items) =
    sym (append-nil made) ∙ ap (λ left. made ++ map (file_of folder) (map named_text left)) (sym none) ∙ c.loop-name.invariant.files in
    c.new.ensures.contents ∙ (λ i name. Some (held-file_bytes c.loop-name.files.items folder (map named_text c.args.tables.items) name all i))

pub loop-name-preserved : goal.loop-name-preserved
loop-name-preserved c = grind (arith, common_steps)
