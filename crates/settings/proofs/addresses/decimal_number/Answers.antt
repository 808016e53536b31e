use Rattle.std.proofs.Common.{◌≡◌, true, arith}
use Rattle.settings.{specs.Addresses.IsPlain, proofs.Unique.{plain_decimal, parsed_plain, unparsed}}
use Rattle.settings.proofs.addresses.decimal_number.Goals as goal

pub returns-then-not-is_plain-clause-none : goal.returns-then-not-is_plain-clause-none
returns-then-not-is_plain-clause-none c n small same =
    let plain : IsPlain c.as_bytes.result.now = rw (c.as_bytes.ensures.value, same) (plain_decimal n (omega arith)) in
    let told : c.is_plain.result ≡ true = c.is_plain.ensures.1 plain in
    cc

pub returns-clause-some : goal.returns-clause-some
returns-clause-some c =
    rw c.ok.ensures.value (parsed_plain c.args.text.now c.parse.result c.parse.ensures.value.0 (rw (← c.as_bytes.ensures.value) (c.is_plain.ensures.0 c.if-not-is_plain.false)))

pub returns-clause-none : goal.returns-clause-none
returns-clause-none c = rw c.ok.ensures.value (unparsed c.args.text.now c.parse.result c.parse.ensures.value.0)
