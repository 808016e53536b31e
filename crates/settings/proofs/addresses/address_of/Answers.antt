-- An address whose text this is has each part that the code looks for.
use Rattle.std.{proofs.{Common.{sym, ◌∙◌, arith}, lemmas.{Grind.common_steps, Str.Pattern.split_parts}}, specs.Net.Grammar.IsDotted}
use Rattle.settings.{specs.Addresses.IsAddress, proofs.Unique.{parted, dotted, undotted, read_as, is_read, address_once}}
use Rattle.settings.proofs.addresses.address_of.Goals as goal

pub returns-in_err-host-clause-none : goal.returns-in_err-host-clause-none
returns-in_err-host-clause-none c =
    rw c.from_residual.ensures (λ a h same.
    let parts = parted c.args.text.now a c.split_once.result c.split_once.ensures.cases h same in
    rw c.in_err-host.was at parts)

pub returns-in_err-host-2-clause-none : goal.returns-in_err-host-2-clause-none
returns-in_err-host-2-clause-none c =
    rw c.from_residual-in_err-host-2.ensures (λ a h same.
    let parts = parted c.args.text.now a c.split_once.result c.split_once.ensures.cases h same in
    let here = rw c.in_ok-host.was at parts in
    is_read _ a.0 c.parse.result c.parse.ensures.value (sym c.ok.ensures.value ∙ c.in_err-host-2.was) (dotted _ a.0 h.0 h.1 here.0))

pub returns-in_err-port-clause-none : goal.returns-in_err-port-clause-none
returns-in_err-port-clause-none c =
    rw c.from_residual-in_err-port.ensures (λ a h same.
    let parts = parted c.args.text.now a c.split_once.result c.split_once.ensures.cases h same in
    let here = rw c.in_ok-host.was at parts in
    c.in_err-port.ensures.none a.1 h.2 here.1)

pub returns-clause-some : goal.returns-clause-some
returns-clause-some c =
    let parts = split_parts 58 c.args.text.now c.split_once.result c.split_once.ensures.cases (omega arith) in
    let here = rw c.in_ok-host.was at parts in
    let four : IsDotted c.in_ok-host.host.now c.octets.result =
    rw c.octets.ensures (read_as _ c.in_ok-host-2.host c.parse.result c.parse.ensures.value (sym c.ok.ensures.value ∙ c.in_ok-host-2.was)) in
    let address : IsAddress (c.octets.result, c.in_ok-port.port) = grind (arith, common_steps) in
    (address, here.0 ∙ undotted _ _ _ _ four c.in_ok-port.ensures.some)

pub returns-clause-only : goal.returns-clause-only
returns-clause-only c b h same = let here = returns-clause-some c in address_once b _ h here.0 (sym same ∙ here.1)
