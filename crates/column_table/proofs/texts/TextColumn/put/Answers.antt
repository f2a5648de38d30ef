use Rattle.std.proofs.Common.{◌≡◌, ◌∙◌, length, arith, rules, true, false}
use Rattle.std.specs.Result.{is_ok}
use Rattle.column_table.proofs.ListFacts.{on-err}
use Rattle.column_table.proofs.TextFacts.{as-many, tight-cut, shows-more, shows-push}
use Rattle.column_table.proofs.texts.TextColumn.put.Goals as goal

pub start_of-start-requires : goal.start_of-start-requires
start_of-start-requires c = omega (arith, as-many c.self.inside.bytes.items c.self.inside.ends.items c.args.self.now c.self.view_is)

-- the bytes were refused
pub invariant_of-self : goal.invariant_of-self
invariant_of-self c =
    let bad : is_ok c.extend_from_slice.result ≡ false = search rules in
    let same = rw bad at c.extend_from_slice.ensures.items in
    (tight-cut c.self.inside.bytes.items c.self.inside.ends.items c.args.self.now c.args.at c.start_of-start.result _ _ c.self.invariant c.self.view_is c.requires c.start_of-start.ensures (same ∙ c.truncate-2.ensures.items) c.truncate.ensures.items).are

pub returns-in_err-extend_from_slice-clause-err : goal.returns-in_err-extend_from_slice-clause-err
returns-in_err-extend_from_slice-clause-err c =
    let bad : is_ok c.extend_from_slice.result ≡ false = search rules in
    let same = rw bad at c.extend_from_slice.ensures.items in
    on-err c.from_residual.result ((tight-cut c.self.inside.bytes.items c.self.inside.ends.items c.args.self.now c.args.at c.start_of-start.result _ _ c.self.invariant c.self.view_is c.requires c.start_of-start.ensures (same ∙ c.truncate-2.ensures.items) c.truncate.ensures.items).texts_are)

-- the end was refused
pub invariant_of-self-in_err-push : goal.invariant_of-self-in_err-push
invariant_of-self-in_err-push c =
    let good : is_ok c.extend_from_slice.result ≡ true = search rules in
    let bad : is_ok c.push.result ≡ false = search rules in
    let longer = rw good at c.extend_from_slice.ensures.items in
    let ends = rw bad at c.push.ensures.items in
    let cut = tight-cut c.self.inside.bytes.items c.self.inside.ends.items c.args.self.now c.args.at c.start_of-start.result _ _ c.self.invariant c.self.view_is c.requires c.start_of-start.ensures c.truncate-2.ensures.items c.truncate.ensures.items in
    rw (longer, ends) (shows-more _ c.as_bytes.result.now _ _ cut).are

pub returns-in_err-push-clause-err : goal.returns-in_err-push-clause-err
returns-in_err-push-clause-err c =
    let good : is_ok c.extend_from_slice.result ≡ true = search rules in
    let bad : is_ok c.push.result ≡ false = search rules in
    let longer = rw good at c.extend_from_slice.ensures.items in
    let ends = rw bad at c.push.ensures.items in
    let cut = tight-cut c.self.inside.bytes.items c.self.inside.ends.items c.args.self.now c.args.at c.start_of-start.result _ _ c.self.invariant c.self.view_is c.requires c.start_of-start.ensures c.truncate-2.ensures.items c.truncate.ensures.items in
    on-err c.from_residual-in_err-push.result (rw (longer, ends) (shows-more _ c.as_bytes.result.now _ _ cut).texts_are)

-- the text is put
pub invariant_of-self-2 : goal.invariant_of-self-2
invariant_of-self-2 c =
    let good : is_ok c.extend_from_slice.result ≡ true = search rules in
    let also : is_ok c.push.result ≡ true = search rules in
    let longer = rw good at c.extend_from_slice.ensures.items in
    let ends = rw also at c.push.ensures.items in
    let end : c.len.result ≡ length c.extend_from_slice.new.self.items = search rules in
    let cut = tight-cut c.self.inside.bytes.items c.self.inside.ends.items c.args.self.now c.args.at c.start_of-start.result _ _ c.self.invariant c.self.view_is c.requires c.start_of-start.ensures c.truncate-2.ensures.items c.truncate.ensures.items in
    rw (ends, end, longer) (shows-push _ c.as_bytes.result.now _ _ cut c.as_bytes.ensures.utf8).are

pub returns-clause-ok : goal.returns-clause-ok
returns-clause-ok c =
    let good : is_ok c.extend_from_slice.result ≡ true = search rules in
    let also : is_ok c.push.result ≡ true = search rules in
    let longer = rw good at c.extend_from_slice.ensures.items in
    let ends = rw also at c.push.ensures.items in
    let end : c.len.result ≡ length c.extend_from_slice.new.self.items = search rules in
    let cut = tight-cut c.self.inside.bytes.items c.self.inside.ends.items c.args.self.now c.args.at c.start_of-start.result _ _ c.self.invariant c.self.view_is c.requires c.start_of-start.ensures c.truncate-2.ensures.items c.truncate.ensures.items in
    rw (ends, end, longer, ← c.as_bytes.ensures.value) (shows-push _ c.as_bytes.result.now _ _ cut c.as_bytes.ensures.utf8).texts_are
