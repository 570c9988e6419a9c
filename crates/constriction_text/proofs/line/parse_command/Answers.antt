use Rattle.std.proofs.Common.{◌≡◌, Some, None, false, codes, rules}
use Rattle.std.specs.Str.{bytes_eq}
use Rattle.constriction_text.proofs.Exactly.{no_request, uniform_read}
use Rattle.constriction_text.proofs.line.parse_command.Goals as goal

pub returns : goal.returns
returns c =
    let word = c.args.keyword.now in
    let table : bytes_eq word (codes "table") ≡ false = search rules in
    let infer : bytes_eq word (codes "infer") ≡ false = search rules in
    let quantile : bytes_eq word (codes "quantile") ≡ false = search rules in
    let symbol : bytes_eq word (codes "symbol") ≡ false = search rules in
    let uniform : bytes_eq word (codes "uniform") ≡ false = search rules in
    no_request word c.args.format _ table infer quantile symbol uniform

pub returns-in-Some-parse_only_number : goal.returns-in-Some-parse_only_number
returns-in-Some-parse_only_number c =
    uniform_read c.args.keyword.now c.args.format _ (Some c.in-Some-parse_only_number.range) (search rules)
    c.in-Some-parse_only_number.ensures

pub returns-in-None-parse_only_number : goal.returns-in-None-parse_only_number
returns-in-None-parse_only_number c =
    uniform_read c.args.keyword.now c.args.format _ None (search rules) c.in-None-parse_only_number.ensures
