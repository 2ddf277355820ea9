-- Every message has a tag of its side.
use Rattle.std.proofs.Common.{refl, IsTrue}
use Rattle.pg_wire.specs.Frame.{frontend_tags, backend_tags, is_known}
use Rattle.pg_wire.specs.Frontend.{FrontendMessage, frontend_frame, Query, Parse, DescribeStatement, DescribePortal, Bind, Execute, CloseStatement, ClosePortal, Sync, Terminate, CopyData, CopyDone, CopyFail}
use Rattle.pg_wire.specs.Backend.{BackendMessage, backend_frame, Authentication, BackendKeyData, ParameterStatus, ReadyForQuery, RowDescription, ParameterDescription, DataRow, CommandComplete, ErrorResponse, NoticeResponse, NotificationResponse, CopyInResponse, CopyOutResponse, BackendCopyData, BackendCopyDone, EmptyQueryResponse, ParseComplete, BindComplete, CloseComplete, NoData, PortalSuspended}

pub frontend_tag : (message : FrontendMessage) → IsTrue (is_known frontend_tags (frontend_frame message).tag)
frontend_tag (Query _) = refl
frontend_tag (Parse _ _ _) = refl
frontend_tag (DescribeStatement _) = refl
frontend_tag (DescribePortal _) = refl
frontend_tag (Bind _ _) = refl
frontend_tag (Execute _ _) = refl
frontend_tag (CloseStatement _) = refl
frontend_tag (ClosePortal _) = refl
frontend_tag Sync = refl
frontend_tag Terminate = refl
frontend_tag (CopyData _) = refl
frontend_tag CopyDone = refl
frontend_tag (CopyFail _) = refl

pub backend_tag : (message : BackendMessage) → IsTrue (is_known backend_tags (backend_frame message).tag)
backend_tag (Authentication _ _) = refl
backend_tag (BackendKeyData _ _) = refl
backend_tag (ParameterStatus _ _) = refl
backend_tag (ReadyForQuery _) = refl
backend_tag (RowDescription _) = refl
backend_tag (ParameterDescription _) = refl
backend_tag (DataRow _) = refl
backend_tag (CommandComplete _) = refl
backend_tag (ErrorResponse _) = refl
backend_tag (NoticeResponse _) = refl
backend_tag (NotificationResponse _ _ _) = refl
backend_tag (CopyInResponse _ _) = refl
backend_tag (CopyOutResponse _ _) = refl
backend_tag (BackendCopyData _) = refl
backend_tag BackendCopyDone = refl
backend_tag EmptyQueryResponse = refl
backend_tag ParseComplete = refl
backend_tag BindComplete = refl
backend_tag CloseComplete = refl
backend_tag NoData = refl
backend_tag PortalSuspended = refl
