use Rattle.std.proofs.Common.{◌≡◌, string_bytes, arith, sym, ◌∙◌}
use Rattle.std.proofs.lemmas.Result.{IfOk-weaker}
use Rattle.hex.specs.Hex.{IsBytes, encode_lower}
use Rattle.pg_report.specs.Bytes.{hex_or_dash}
use Rattle.pg_report.proofs.DigitLaws.{encoded_or_dash}
use Rattle.pg_report.proofs.lines.sent_text.Goals as goal

pub returns : goal.returns
returns c =
    let fits : IsBytes c.args.sent.now = λ i. let f = c.type_inv.sent i in omega arith in
    let same = encoded_or_dash c.args.sent.now fits (sym c.is_empty.ensures ∙ c.if-is_empty.false) in
    IfOk-weaker c.encode.result (λ t. string_bytes t ≡ encode_lower c.args.sent.now) (λ t. string_bytes t ≡ hex_or_dash c.args.sent.now)
    (λ t e. e ∙ same) c.encode.ensures
