use Rattle.std.proofs.Common.{subst, ◌<◌, List, ℕ, length}
use Rattle.std.specs.Prelude.{Err}
use Rattle.rpt_outside.specs.Causes.{HasContents, Rose}
use Rattle.rpt_outside.specs.Seen.{FilesSeen, seen}
use Rattle.rpt_outside.specs.Whole.{Reads}
use Rattle.rpt_outside.specs.declared.errors.ReadError.{ReadError}
use Rattle.rpt_cli.proofs.Courses.{fault-Gives, large-Gives, read-Passes}
use Rattle.rpt_cli.proofs.fetch.fetch.Goals as goal

pub returns-in-Ok-clause-passes : goal.returns-in-Ok-clause-passes
returns-in-Ok-clause-passes g c =
    let files = g.F.Files in
    let has = subst (λ (name : List ℕ). HasContents (files.is_missing c.args.files.now name) (files.contents c.args.files.now name) c.in-Ok.bytes.items) c.bytes.ensures.bytes c.in-Ok.ensures.reads.0 in
    read-Passes files c.args.files.now c.read_whole.new.files c.args.limit c.args.name.now c.in-Ok.bytes.items
    c.in-Ok.ensures.missing c.in-Ok.ensures.contents c.in-Ok.ensures.later has c.in-Ok.ensures.reads.1

pub returns-in-Err-Failed-clause-refused : goal.returns-in-Err-Failed-clause-refused
returns-in-Err-Failed-clause-refused g c = λ next.
    let files : FilesSeen = seen g.F.Files c.args.files.now c.read_whole.new.files in
    let bytes = c.bytes.result.now in
    let rose = subst (λ (e : ReadError). Reads files c.args.limit bytes (Err e)) c.in-Err-Failed.field-0-is c.in-Err-Failed.ensures.reads in
    fault-Gives files c.args.limit c.args.name.now next c.read_fault.result c.read_fault.ensures
    (subst (λ (name : List ℕ). Rose (files.before name) (files.now name)) c.bytes.ensures.bytes rose)

pub returns-in-Err-TooLarge-clause-refused : goal.returns-in-Err-TooLarge-clause-refused
returns-in-Err-TooLarge-clause-refused g c = λ next.
    let files : FilesSeen = seen g.F.Files c.args.files.now c.read_whole.new.files in
    let bytes = c.bytes.result.now in
    let large = subst (λ (e : ReadError). Reads files c.args.limit bytes (Err e)) c.in-Err-TooLarge.field-0-is c.in-Err-TooLarge.ensures.reads in
    large-Gives files c.args.limit c.args.name.now next c.too_large.result c.too_large.ensures
    (subst (λ (name : List ℕ). (bytes : List ℕ) × HasContents (files.missing name) (files.told name) bytes × (c.args.limit < length bytes)) c.bytes.ensures.bytes large)

pub returns-in-Ok-clause-refused : goal.returns-in-Ok-clause-refused
returns-in-Ok-clause-refused g c = tt
