use Rattle.std.proofs.Common.{ap, sym}
use Rattle.std.proofs.lemmas.Result.{IfOk-weaker, IfErr-weaker}
use Rattle.pg_resolve.specs.declared.codes.Sort.{Sort}
use Rattle.pg_resolve.specs.declared.codes.Sort.TheVariants as sorts
use Rattle.pg_resolve.specs.Rows.{parts_by, kind_by}
use Rattle.pg_resolve.specs.Cached.{known}
use Rattle.pg_resolve.specs.Found.{IsOnePart, IsFound, LacksPart, Lacks}
use Rattle.pg_resolve.proofs.FoundLaws.{found_one, lacks_one}
use Rattle.pg_resolve.proofs.entering.kind_of.Goals as goal

pub returns-in-Domain-clause-found : goal.returns-in-Domain-clause-found
returns-in-Domain-clause-found c =
    let row = c.args.row.now in
    IfOk-weaker c.kind_over.result (IsOnePart (known c.args.cache.now) sorts.Domain row.typbasetype) (IsFound (known c.args.cache.now) row)
    (found_one (known c.args.cache.now) row sorts.Domain row.typbasetype (ap (λ (s : Sort). parts_by s row) (sym c.in-Domain.ensures)) (ap (λ (s : Sort). kind_by s row) (sym c.in-Domain.ensures))) c.kind_over.ensures.found

pub returns-in-Domain-clause-lacks : goal.returns-in-Domain-clause-lacks
returns-in-Domain-clause-lacks c =
    let row = c.args.row.now in
    IfErr-weaker c.kind_over.result (LacksPart row.typbasetype row.oid) (Lacks row) (lacks_one row row.typbasetype (ap (λ (s : Sort). parts_by s row) (sym c.in-Domain.ensures))) c.kind_over.ensures.lacks

pub returns-in-Array-clause-found : goal.returns-in-Array-clause-found
returns-in-Array-clause-found c =
    let row = c.args.row.now in
    IfOk-weaker c.kind_over-in-Array.result (IsOnePart (known c.args.cache.now) sorts.Array row.typelem) (IsFound (known c.args.cache.now) row)
    (found_one (known c.args.cache.now) row sorts.Array row.typelem (ap (λ (s : Sort). parts_by s row) (sym c.in-Array.ensures)) (ap (λ (s : Sort). kind_by s row) (sym c.in-Array.ensures))) c.kind_over-in-Array.ensures.found

pub returns-in-Array-clause-lacks : goal.returns-in-Array-clause-lacks
returns-in-Array-clause-lacks c =
    let row = c.args.row.now in
    IfErr-weaker c.kind_over-in-Array.result (LacksPart row.typelem row.oid) (Lacks row) (lacks_one row row.typelem (ap (λ (s : Sort). parts_by s row) (sym c.in-Array.ensures))) c.kind_over-in-Array.ensures.lacks

pub returns-in-Range-clause-found : goal.returns-in-Range-clause-found
returns-in-Range-clause-found c =
    let row = c.args.row.now in
    IfOk-weaker c.kind_over-in-Range.result (IsOnePart (known c.args.cache.now) sorts.Range row.rngsubtype) (IsFound (known c.args.cache.now) row)
    (found_one (known c.args.cache.now) row sorts.Range row.rngsubtype (ap (λ (s : Sort). parts_by s row) (sym c.in-Range.ensures)) (ap (λ (s : Sort). kind_by s row) (sym c.in-Range.ensures))) c.kind_over-in-Range.ensures.found

pub returns-in-Range-clause-lacks : goal.returns-in-Range-clause-lacks
returns-in-Range-clause-lacks c =
    let row = c.args.row.now in
    IfErr-weaker c.kind_over-in-Range.result (LacksPart row.rngsubtype row.oid) (Lacks row) (lacks_one row row.rngsubtype (ap (λ (s : Sort). parts_by s row) (sym c.in-Range.ensures))) c.kind_over-in-Range.ensures.lacks
