-- The worked examples of src/exchanges.rt, computed.
use Rattle.std.proofs.Common.{ℕ, true, List, [], ◌∷◌, ◌++◌, map, Some, None, refl, codes, inl, inr, rules, pos}
use Rattle.pg_wire.specs.declared.status.TransactionStatus.{TransactionStatus}
use Rattle.pg_wire.specs.Frontend.{frontend_frame, Query, Sync, CopyData, CopyDone, CopyFail}
use Rattle.pg_wire.specs.Backend.{FieldDescription, backend_frame, ReadyForQuery, RowDescription, ParameterDescription, DataRow, CommandComplete, ErrorResponse, ParseComplete, BindComplete, CloseComplete, NoData, CopyInResponse}
use Rattle.pg_wire.specs.Server.{Server, fresh_server, AreReplies, AreSegments, with_statement}
use Rattle.pg_wire.specs.Copying.{CopyServer, fresh_copy_server, AreCopyReplies, IsCopySegment, QueryCopies}
use Rattle.pg_wire.specs.Transactions.{AreTransactionReplies, TellsStatuses, told}
use Rattle.pg_wire.specs.Exchanges.{one_column, row, syntax_error, selected, empty, two_segments, failed, failed_late, completed, described_group, executed_group, none_described, one_described, one_executed, copied_out, copy_broken, copy_finished, transaction, rolled_back}
use Rattle.pg_wire.proofs.ReplyLaws.{accepted_reply, refused_reply}
use Rattle.pg_wire.specs.declared.status.TransactionStatus.TheVariants as statuses

-- ---- a Query

pub select_is_answered : AreReplies (frontend_frame (Query (codes "SELECT 1")) ∷ []) (map backend_frame selected)
select_is_answered = accepted_reply (codes "SELECT 1") selected _ refl (search rules) refl

pub empty_query_is_answered : AreReplies (frontend_frame (Query []) ∷ []) (map backend_frame empty)
empty_query_is_answered = accepted_reply [] empty _ refl (search rules) refl

pub two_segments_are_answered : AreReplies (frontend_frame (Query (codes "SET a TO b; VALUES (1), (1)")) ∷ []) (map backend_frame two_segments)
two_segments_are_answered = accepted_reply (codes "SET a TO b; VALUES (1), (1)") two_segments _ refl (search rules) refl

pub failed_query_is_answered : AreReplies (frontend_frame (Query (codes "SELECT; SELECT 1")) ∷ []) (map backend_frame (failed statuses.Idle))
failed_query_is_answered = accepted_reply (codes "SELECT; SELECT 1") (failed statuses.Idle) _ refl (search rules) refl

pub late_error_is_answered : AreReplies (frontend_frame (Query (codes "SELECT 1 / a FROM b")) ∷ []) (map backend_frame failed_late)
late_error_is_answered = accepted_reply (codes "SELECT 1 / a FROM b") failed_late _ refl (search rules) refl

-- ---- the extended query

abbrev prepared : List FieldDescription → Server
prepared fields = with_statement fresh_server (codes "sqlx_s_1") (record { sql = codes "SELECT 1"; fields = fields })

pub no_columns_are_described : AreReplies (map frontend_frame described_group) (map backend_frame none_described)
no_columns_are_described = record {
  messages = described_group;
  replies = (ParseComplete ∷ []) ∷ (ParameterDescription [] ∷ NoData ∷ []) ∷ (ReadyForQuery statuses.Idle ∷ []) ∷ [];
  after = prepared [];
  messages_have_frames = search rules;
  sent_is = refl;
  run = (prepared [], inl (refl, [], refl, refl), (prepared [], inl ([], NoData, inr (refl, refl), refl, refl), (prepared [], (statuses.Idle, refl, inl refl), refl)));
  replies_have_frames = search rules;
  heard_is = ([], refl);
}

abbrev with_column : Server
with_column = prepared (one_column ∷ [])

abbrev with_portal : Server
with_portal = record with_column { portal = Some (one_column ∷ []) }

pub column_is_described_and_executed : AreReplies (map frontend_frame (described_group ++ executed_group)) (map backend_frame (one_described ++ one_executed))
column_is_described_and_executed = record {
  messages = described_group ++ executed_group;
  replies = (ParseComplete ∷ []) ∷ (ParameterDescription [] ∷ RowDescription (one_column ∷ []) ∷ []) ∷ (ReadyForQuery statuses.Idle ∷ [])
      ∷ (BindComplete ∷ []) ∷ (row ∷ CommandComplete (codes "SELECT 1") ∷ []) ∷ (CloseComplete ∷ []) ∷ (ReadyForQuery statuses.Idle ∷ []) ∷ [];
  after = with_column;
  messages_have_frames = search rules;
  sent_is = refl;
  run = (
    with_column,
    inl (refl, one_column ∷ [], refl, refl),
    (
      with_column,
      inl ([], RowDescription (one_column ∷ []), inl refl, refl, refl),
      (
        with_column,
        (statuses.Idle, refl, inl refl),
        (
          with_portal,
          inl (refl, refl),
          (
            with_portal,
            inl (((Some (codes "1") ∷ []) ∷ [], (refl, tt), inl (codes "SELECT 1", refl)), refl),
            (with_column, inl (refl, refl), (with_column, (statuses.Idle, refl, inl refl), refl)),
          ),
        ),
      ),
    ),
  );
  replies_have_frames = search rules;
  heard_is = ([], refl);
}

-- a Parse that fails: what follows is skipped up to the Sync
pub failed_parse_is_answered : AreReplies (map frontend_frame described_group) (map backend_frame (failed statuses.Idle))
failed_parse_is_answered = record {
  messages = described_group;
  replies = (ErrorResponse syntax_error ∷ []) ∷ [] ∷ (ReadyForQuery statuses.Idle ∷ []) ∷ [];
  after = fresh_server;
  messages_have_frames = search rules;
  sent_is = refl;
  run = (skipping, inr (syntax_error, refl, refl), (skipping, (refl, refl), (fresh_server, (statuses.Idle, refl, inl refl), refl)));
  replies_have_frames = search rules;
  heard_is = ([], refl);
}
  where
    skipping : Server
    skipping = record fresh_server { skip = true }

-- a transaction that fails as it ends
pub failed_end_is_answered : AreReplies (frontend_frame Sync ∷ []) (map backend_frame (failed statuses.Idle))
failed_end_is_answered = record {
  messages = Sync ∷ [];
  replies = (ErrorResponse syntax_error ∷ ReadyForQuery statuses.Idle ∷ []) ∷ [];
  after = fresh_server;
  messages_have_frames = search rules;
  sent_is = refl;
  run = (fresh_server, (statuses.Idle, refl, inr (syntax_error, refl)), refl);
  replies_have_frames = search rules;
  heard_is = ([], refl);
}

-- ---- a copy to the client

pub copy_to_the_client_is_answered : AreCopyReplies (frontend_frame (Query (codes "COPY t TO STDOUT")) ∷ []) (map backend_frame (copied_out ++ ReadyForQuery statuses.Idle ∷ []))
copy_to_the_client_is_answered = record {
  messages = Query (codes "COPY t TO STDOUT") ∷ [];
  replies = (copied_out ++ ReadyForQuery statuses.Idle ∷ []) ∷ [];
  after = fresh_copy_server;
  messages_have_frames = search rules;
  sent_is = refl;
  run = (fresh_copy_server, inl (out, refl), refl);
  replies_have_frames = search rules;
  heard_is = ([], refl);
}
  where
    out : AreSegments IsCopySegment (copied_out ++ ReadyForQuery statuses.Idle ∷ [])
    out = record { before = []; last = copied_out; status = statuses.Idle; whole = tt; ends = inl (inr (pos 0, [], codes "1" ∷ codes "2" ∷ [], codes "COPY 2", refl)); are = refl }

-- ---- copies from the client: one that it breaks off, and one that it finishes

abbrev copying : CopyServer
copying = record { server = fresh_server; mode = QueryCopies }

pub broken_copy_is_answered : AreCopyReplies (frontend_frame (Query (codes "COPY t FROM STDIN")) ∷ frontend_frame (CopyFail (codes "no")) ∷ []) (map backend_frame copy_broken)
broken_copy_is_answered = record {
  messages = Query (codes "COPY t FROM STDIN") ∷ CopyFail (codes "no") ∷ [];
  replies = (CopyInResponse (pos 0) [] ∷ []) ∷ (ErrorResponse syntax_error ∷ ReadyForQuery statuses.Idle ∷ []) ∷ [];
  after = fresh_copy_server;
  messages_have_frames = search rules;
  sent_is = refl;
  run = (copying, inr (([], CopyInResponse (pos 0) [], tt, (pos 0, [], refl), refl), refl), (fresh_copy_server, (syntax_error, statuses.Idle, refl, refl), refl));
  replies_have_frames = search rules;
  heard_is = ([], refl);
}

-- a copy from the client that is finished
pub finished_copy_is_answered : AreCopyReplies (frontend_frame (Query (codes "COPY t FROM STDIN")) ∷ frontend_frame (CopyData (codes "a")) ∷ frontend_frame CopyDone ∷ []) (map backend_frame copy_finished)
finished_copy_is_answered = record {
  messages = Query (codes "COPY t FROM STDIN") ∷ CopyData (codes "a") ∷ CopyDone ∷ [];
  replies = (CopyInResponse (pos 0) [] ∷ []) ∷ [] ∷ (CommandComplete (codes "COPY 2") ∷ ReadyForQuery statuses.Idle ∷ []) ∷ [];
  after = fresh_copy_server;
  messages_have_frames = search rules;
  sent_is = refl;
  run = (
    record { server = fresh_server; mode = QueryCopies },
    inr (([], CopyInResponse (pos 0) [], tt, (pos 0, [], refl), refl), refl),
    (
      record { server = fresh_server; mode = QueryCopies },
      (refl, refl),
      (fresh_copy_server, inl (codes "COPY 2", ReadyForQuery statuses.Idle ∷ [], refl, inl (statuses.Idle, refl, refl)), refl),
    ),
  );
  replies_have_frames = search rules;
  heard_is = ([], refl);
}

-- ---- a transaction that fails and is rolled back

pub transaction_is_answered : AreTransactionReplies [] (map frontend_frame transaction) (map backend_frame rolled_back)
transaction_is_answered = record {
  are_replies = record {
    messages = transaction;
    replies = completed (codes "BEGIN") statuses.Transaction ∷ failed statuses.Error ∷ completed (codes "ROLLBACK") statuses.Idle ∷ [];
    after = fresh_copy_server;
    messages_have_frames = search rules;
    sent_is = refl;
    run = (fresh_copy_server, inl (well (codes "BEGIN") statuses.Transaction, refl), (fresh_copy_server, inl (broken, refl), (fresh_copy_server, inl (well (codes "ROLLBACK") statuses.Idle, refl), refl)));
    replies_have_frames = search rules;
    heard_is = ([], refl);
  };
  statuses = (tt, refl, (tt, refl, ((codes "ROLLBACK", refl), refl, tt)));
}
  where
    well : (tag : List ℕ) (status : TransactionStatus) → AreSegments IsCopySegment (completed tag status)
    well tag status = record { before = []; last = CommandComplete tag ∷ []; status = status; whole = tt; ends = inl (inl (inl (tag, refl))); are = refl }

    broken : AreSegments IsCopySegment (failed statuses.Error)
    broken = record { before = []; last = ErrorResponse syntax_error ∷ []; status = statuses.Error; whole = tt; ends = inr ([], CommandComplete [] ∷ [], syntax_error, inl (inl ([], refl)), (λ n. cc), refl); are = refl }

pub open_commit_is_refused : TellsStatuses [] (told statuses.Transaction) (Query (codes "COMMIT") ∷ []) (completed (codes "COMMIT") statuses.Transaction ∷ []) → ⊥
open_commit_is_refused t = let e = t.1 in cc

pub failed_rollback_is_refused : TellsStatuses [] (told statuses.Transaction) (Query (codes "ROLLBACK") ∷ []) (failed statuses.Error ∷ []) → ⊥
failed_rollback_is_refused t = let e = t.0.1 in cc

-- ---- what is no reply

pub bare_ready_is_refused : AreReplies (frontend_frame (Query (codes "SELECT 1")) ∷ []) (map backend_frame (ReadyForQuery statuses.Idle ∷ [])) → ⊥
bare_ready_is_refused r = refused_reply (codes "SELECT 1") (ReadyForQuery statuses.Idle ∷ []) (search rules) refl r

pub wide_row_is_refused : AreReplies (frontend_frame (Query (codes "SELECT 1")) ∷ []) (map backend_frame (RowDescription (one_column ∷ []) ∷ DataRow (None ∷ None ∷ []) ∷ [])) → ⊥
wide_row_is_refused r = refused_reply (codes "SELECT 1") (RowDescription (one_column ∷ []) ∷ DataRow (None ∷ None ∷ []) ∷ []) (search rules) refl r

pub segment_behind_error_is_refused : AreReplies (frontend_frame (Query (codes "SELECT 1; SET a TO b")) ∷ []) (map backend_frame (ErrorResponse syntax_error ∷ CommandComplete (codes "SET") ∷ [])) → ⊥
segment_behind_error_is_refused r = refused_reply (codes "SELECT 1; SET a TO b") (ErrorResponse syntax_error ∷ CommandComplete (codes "SET") ∷ []) (search rules) refl r
