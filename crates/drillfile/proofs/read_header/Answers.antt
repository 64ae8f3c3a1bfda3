-- By what can be had: the three numbers, sizes that hold, and then the links. Assumes nothing.
use native.Mathlib.Omega.{arith}
use mathlib.Core.Path.{sym, ◌∙◌, subst}
use Rattle.model.specs.File.{read_header}
use Rattle.model.proofs.Numbers.{number_moves}
use Rattle.model.proofs.Format.{sizes_small}
use Rattle.drillfile.specs.Headers.{HeaderPost}
use Rattle.entries.proofs.EventRead.{as_had, as_spoilt}
use Rattle.drillfile.proofs.HeaderRead.{first_at, refuses, nodes_cut, destination_cut, links_cut, wrong_sizes, right_sizes}
use Rattle.drillfile.proofs.read_header.Goals as goal

pub returns-in_default : goal.returns-in_default
returns-in_default c =
    let cut = sym (first_at c.args.file.now c.args.from _ c.min-at.ensures) ∙ as_spoilt c.args.file.now
    _ _ (omega (arith, c.min-at.ensures)) c.read_number.ensures c.in_default.is in
    refuses (read_header c.args.file.now c.args.from.at) _ c.args.from _ c.refused.ensures
    (nodes_cut c.args.file.now _ _ cut)

pub returns-in_default-read_number : goal.returns-in_default-read_number
returns-in_default-read_number c =
    let nodes = sym (first_at c.args.file.now c.args.from _ c.min-at.ensures) ∙ as_had c.args.file.now _
    _ c.read_number.ensures c.in-Ok.is in
    let cut = as_spoilt c.args.file.now _ _ (number_moves c.args.file.now _ _ _ nodes).1
    c.read_number-2.ensures c.in_default-read_number.is in
    refuses (read_header c.args.file.now c.args.from.at) _ c.args.from _ c.refused-in_default-read_number.ensures
    (destination_cut c.args.file.now _ _ _ nodes _ cut)

pub returns-in_default-read_number-2 : goal.returns-in_default-read_number-2
returns-in_default-read_number-2 c =
    let nodes = sym (first_at c.args.file.now c.args.from _ c.min-at.ensures) ∙ as_had c.args.file.now _
    _ c.read_number.ensures c.in-Ok.is in
    let destination = as_had c.args.file.now _ _ c.read_number-2.ensures c.in-Ok-read_number.is in
    let cut = as_spoilt c.args.file.now _ _ (number_moves c.args.file.now _ _ _ destination).1
    c.read_number-3.ensures c.in_default-read_number-2.is in
    refuses (read_header c.args.file.now c.args.from.at) _ c.args.from _ c.refused-in_default-read_number-2.ensures
    (links_cut c.args.file.now _ _ _ nodes _ _ destination _ cut)

pub returns-then-not-sizes_hold : goal.returns-then-not-sizes_hold
returns-then-not-sizes_hold c =
    let nodes = sym (first_at c.args.file.now c.args.from _ c.min-at.ensures) ∙ as_had c.args.file.now _
    _ c.read_number.ensures c.in-Ok.is in
    let destination = as_had c.args.file.now _ _ c.read_number-2.ensures c.in-Ok-read_number.is in
    let links = as_had c.args.file.now _ _ c.read_number-3.ensures c.in-Ok-read_number-2.is in
    let sizes = sym c.sizes_hold.ensures ∙ c.if-not-sizes_hold.true in
    refuses (read_header c.args.file.now c.args.from.at) _ c.args.from _ c.refused-then-not-sizes_hold.ensures
    (wrong_sizes c.args.file.now _ _ _ nodes _ _ destination _ _ links sizes)

pub read_links-requires : goal.read_links-requires
read_links-requires c =
    let links = as_had c.args.file.now _ _ c.read_number-3.ensures c.in-Ok-read_number-2.is in
    let sizes = sym c.sizes_hold.ensures ∙ c.if-not-sizes_hold.false in
    ((number_moves c.args.file.now _ _ _ links).1, (sizes_small _ _ _ sizes).2)

pub returns : goal.returns
returns c =
    let nodes = sym (first_at c.args.file.now c.args.from _ c.min-at.ensures) ∙ as_had c.args.file.now _
    _ c.read_number.ensures c.in-Ok.is in
    let destination = as_had c.args.file.now _ _ c.read_number-2.ensures c.in-Ok-read_number.is in
    let links = as_had c.args.file.now _ _ c.read_number-3.ensures c.in-Ok-read_number-2.is in
    let sizes = sym c.sizes_hold.ensures ∙ c.if-not-sizes_hold.false in
    subst (λ x. HeaderPost c.args.from.at x c.read_links.result)
    (sym (right_sizes c.args.file.now _ _ _ nodes _ _ destination _ _ links sizes)) c.read_links.ensures
