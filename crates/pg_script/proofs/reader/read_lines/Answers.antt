use Rattle.std.proofs.Common.{◌≡◌, ◌∷◌, ◌+◌, ◌-◌, ◌∙◌, sym, ap, arith, length, drop, length-take, length-drop}
use Rattle.pg_script.specs.Scripts.{empty_script, lines_of, lines_behind, read_from}
use Rattle.pg_script.proofs.ReadLaws.{bad_read, next_read, last_read, behind_one}
use Rattle.pg_script.proofs.reader.read_lines.Goals as goal

pub returns-in-Err-Bad : goal.returns-in-Err-Bad
returns-in-Err-Bad c =
    let bad = rw c.in-Err-Bad.field-0-is at c.in-Err-Bad.ensures in
    let cut : lines_of c.loop-lexer.rest.now ≡ c.split_at.result.0.now ∷ lines_behind c.split_at.result.1.now = rw (c.split_at.ensures.front, c.split_at.ensures.back) c.line_end.ensures.cut in
    bad_read c.args.kind c.loop-lexer.number c.loop-lexer.script c.split_at.result.0.now c.split_at.result.1.now c.loop-lexer.rest.now (read_from c.args.kind 0 empty_script (lines_of c.args.text.now)) cut bad c.loop-lexer.invariant.reads

pub returns-in-empty : goal.returns-in-empty
returns-in-empty c =
    let cut : lines_of c.loop-lexer.rest.now ≡ c.split_at.result.0.now ∷ lines_behind c.split_at.result.1.now = rw (c.split_at.ensures.front, c.split_at.ensures.back) c.line_end.ensures.cut in
    last_read c.args.kind (c.loop-lexer.number + 1) c.add_line.new.self c.split_at.result.1.now (read_from c.args.kind 0 empty_script (lines_of c.args.text.now)) c.in-empty.len_below
    (next_read c.args.kind c.loop-lexer.number c.loop-lexer.script c.add_line.new.self c.split_at.result.0.now c.split_at.result.1.now c.loop-lexer.rest.now (read_from c.args.kind 0 empty_script (lines_of c.args.text.now)) cut c.in-Ok.ensures c.loop-lexer.invariant.reads)

pub loop-lexer-preserved : goal.loop-lexer-preserved
loop-lexer-preserved c =
    let cut : lines_of c.loop-lexer.rest.now ≡ c.split_at.result.0.now ∷ lines_behind c.split_at.result.1.now = rw (c.split_at.ensures.front, c.split_at.ensures.back) c.line_end.ensures.cut in
    record {
      short = omega (arith, length-take (length c.split_at.result.1.now - 1) (drop 1 c.split_at.result.1.now), length-drop 1 c.split_at.result.1.now, c.split_at.ensures.back_len, c.loop-lexer.invariant.short);
      reads = ap (read_from c.args.kind (c.loop-lexer.number + 1) c.add_line.new.self) (sym (behind_one c.split_at.result.1.now c.in-len1-up.len_at_least))
          ∙ next_read c.args.kind c.loop-lexer.number c.loop-lexer.script c.add_line.new.self c.split_at.result.0.now c.split_at.result.1.now c.loop-lexer.rest.now (read_from c.args.kind 0 empty_script (lines_of c.args.text.now)) cut c.in-Ok.ensures c.loop-lexer.invariant.reads;
    }
