-- A type that is made of one other, as it was found among the types that are known.
use Rattle.std.proofs.Common.{◌≡◌, inl, inr, ℕ, [], sym, ap, ◌∙◌, Option, Some, None, option_map, Ok, Err, append-nil}
use Rattle.pg_arguments.specs.Types.{TypeParts}
use Rattle.pg_arguments.specs.Kinds.{made_of}
use Rattle.pg_wire.specs.declared.error.Error.{Error}
use Rattle.pg_resolve.specs.declared.codes.Sort.{Sort}
use Rattle.pg_resolve.specs.declared.row.TypeResolverRow.{TypeResolverRow}
use Rattle.pg_resolve.specs.declared.found.Found.{Found}
use Rattle.pg_resolve.specs.declared.found.Found.TheVariants as founds
use Rattle.pg_resolve.specs.Rows.{Known, one, part_then, gathered, parts_of, kind_of}
use Rattle.pg_resolve.specs.Found.{kind_over, IsOnePart, IsFound, LacksPart, Lacks}

pub found_one : (known : Known) (row : TypeResolverRow) (sort : Sort) (part : Option ℕ) → parts_of row ≡ one part → kind_of row ≡ kind_over sort → (found : Found) → IsOnePart known sort part found → IsFound known row found
found_one known row sort None parts kind found h = absurd h
found_one known row sort (Some oid) parts kind (founds.Known k) h = (
  ap (option_map (gathered known)) parts ∙ ap (λ (o : Option TypeParts). Some (part_then oid o (Ok []))) h.0 ∙ ap (λ (t : TypeParts). Some (Ok t)) (append-nil (made_of k)),
  h.1 ∙ sym kind,
)
found_one known row sort (Some oid) parts kind (founds.Missing p) h =
    ap (option_map (gathered known)) parts ∙ ap (λ (o : Option TypeParts). Some (part_then oid o (Ok []))) h.0 ∙ ap (λ (n : ℕ). Some (Err n)) (sym h.1)

pub lacks_one : (row : TypeResolverRow) (part : Option ℕ) → parts_of row ≡ one part → (e : Error) → LacksPart part row.oid e → Lacks row e
lacks_one row part parts e (inl memory) = inl memory
lacks_one row part parts e (inr (none, is)) = inr (parts ∙ ap one none, is)
