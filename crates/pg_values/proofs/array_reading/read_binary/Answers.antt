use Rattle.std.proofs.Common.{arith}
use Rattle.pg_wire.proofs.ReaderLaws.{are_bytes}
use Rattle.pg_values.specs.declared.format.PgValueFormat.TheVariants as formats
use Rattle.pg_values.specs.Arrays.{element_type}
use Rattle.pg_values.proofs.ReadLaws.{none_of, on_ok, on_err}
use Rattle.pg_values.proofs.ArrayLaws.{reads_is, is_reads}
use Rattle.pg_values.proofs.array_reading.read_binary.Goals as goal

pub returns-clause-value : goal.returns-clause-value
returns-clause-value g c =
    on_ok c.read_parts.result _ _ (λ v. reads_is (g.T.Decode.reads (element_type c.args.type_info.now) formats.Binary) c.args.bytes.now v.items (are_bytes c.args.bytes.now (λ i. omega (arith, c.type_inv.bytes i)))) (rw c.element_of.ensures at c.read_parts.ensures.value)

pub returns-clause-cause : goal.returns-clause-cause
returns-clause-cause g c =
    on_err c.read_parts.result _ _ (λ e. none_of _ _ e (λ bad v r. bad v (is_reads (g.T.Decode.reads (element_type c.args.type_info.now) formats.Binary) c.args.bytes.now v.items r))) (rw c.element_of.ensures at c.read_parts.ensures.cause)
