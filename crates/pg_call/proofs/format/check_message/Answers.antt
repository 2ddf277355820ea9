use Rattle.std.proofs.Common.{map}
use Rattle.pg_wire.specs.Backend.{BackendKeyData, ParameterStatus, ReadyForQuery, RowDescription, ParameterDescription, DataRow, ErrorResponse, NoticeResponse, NotificationResponse, CopyInResponse, CopyOutResponse, BackendCopyData, BackendCopyDone, EmptyQueryResponse, ParseComplete, BindComplete, CloseComplete, NoData, PortalSuspended}
use Rattle.pg_wire.specs.Fields.{described}
use Rattle.pg_call.proofs.FormatLaws.{decoded, decoded_as}
use Rattle.pg_call.proofs.format.check_message.Goals as goal

pub returns-in-82 : goal.returns-in-82
returns-in-82 c = rw c.in-82.is (c.checked.ensures _ _ (decoded_as c.decode_authentication.result _ _ _ c.decode_authentication.ensures))

pub returns-in-75 : goal.returns-in-75
returns-in-75 c = rw c.in-75.is (c.checked-in-75.ensures _ _ (decoded c.decode_backend_key_data.result (λ d. BackendKeyData d.process_id d.secret_key) _ _ c.decode_backend_key_data.ensures.exact))

pub returns-in-83 : goal.returns-in-83
returns-in-83 c = rw c.in-83.is (c.checked-in-83.ensures _ _ (decoded c.decode_parameter_status.result (λ s. ParameterStatus s.name s.value) _ _ c.decode_parameter_status.ensures))

pub returns-in-90 : goal.returns-in-90
returns-in-90 c = rw c.in-90.is (c.checked-in-90.ensures _ _ (decoded c.decode_ready_for_query.result ReadyForQuery _ _ c.decode_ready_for_query.ensures.exact))

pub returns-in-69 : goal.returns-in-69
returns-in-69 c = rw c.in-69.is (c.checked-in-69.ensures _ _ (decoded c.decode_error_response.result ErrorResponse _ _ c.decode_error_response.ensures))

pub returns-in-78 : goal.returns-in-78
returns-in-78 c = rw c.in-78.is (c.checked-in-78.ensures _ _ (decoded c.decode_notice_response.result NoticeResponse _ _ c.decode_notice_response.ensures))

pub returns-in-65 : goal.returns-in-65
returns-in-65 c = rw c.in-65.is (c.checked-in-65.ensures _ _ (decoded c.decode_notification_response.result (λ n. NotificationResponse n.process_id n.channel n.payload) _ _ c.decode_notification_response.ensures))

pub returns-in-84 : goal.returns-in-84
returns-in-84 c = rw c.in-84.is (c.checked-in-84.ensures _ _ (decoded c.decode_row_description.result (λ fields. RowDescription (map described fields)) _ _ c.decode_row_description.ensures.exact))

pub returns-in-68 : goal.returns-in-68
returns-in-68 c = rw c.in-68.is (c.checked-in-68.ensures _ _ (decoded c.decode_data_row.result DataRow _ _ c.decode_data_row.ensures))

pub returns-in-67 : goal.returns-in-67
returns-in-67 c = rw c.in-67.is (c.checked-in-67.ensures _ _ (decoded_as c.decode_command_complete.result _ _ _ c.decode_command_complete.ensures.exact))

pub returns-in-73 : goal.returns-in-73
returns-in-73 c = rw c.in-73.is (c.checked-in-73.ensures _ _ (decoded c.decode_empty_query.result (λ u. EmptyQueryResponse) _ _ c.decode_empty_query.ensures.exact))

pub returns-in-71 : goal.returns-in-71
returns-in-71 c = rw c.in-71.is (c.checked-in-71.ensures _ _ (decoded c.decode_copy_in_response.result (λ d. CopyInResponse d.format d.format_codes) _ _ c.decode_copy_in_response.ensures))

pub returns-in-72 : goal.returns-in-72
returns-in-72 c = rw c.in-72.is (c.checked-in-72.ensures _ _ (decoded c.decode_copy_out_response.result (λ d. CopyOutResponse d.format d.format_codes) _ _ c.decode_copy_out_response.ensures))

pub returns-in-100 : goal.returns-in-100
returns-in-100 c = rw c.in-100.is (c.checked-in-100.ensures _ _ (decoded c.decode_copy_data.result BackendCopyData _ _ c.decode_copy_data.ensures))

pub returns-in-99 : goal.returns-in-99
returns-in-99 c = rw c.in-99.is (c.checked-in-99.ensures _ _ (decoded c.decode_copy_done.result (λ u. BackendCopyDone) _ _ c.decode_copy_done.ensures.exact))

pub returns-in-116 : goal.returns-in-116
returns-in-116 c = rw c.in-116.is (c.checked-in-116.ensures _ _ (decoded c.decode_parameter_description.result ParameterDescription _ _ c.decode_parameter_description.ensures))

pub returns-in-49 : goal.returns-in-49
returns-in-49 c = rw c.in-49.is (c.checked-in-49.ensures _ _ (decoded c.decode_parse_complete.result (λ u. ParseComplete) _ _ c.decode_parse_complete.ensures.exact))

pub returns-in-50 : goal.returns-in-50
returns-in-50 c = rw c.in-50.is (c.checked-in-50.ensures _ _ (decoded c.decode_bind_complete.result (λ u. BindComplete) _ _ c.decode_bind_complete.ensures.exact))

pub returns-in-51 : goal.returns-in-51
returns-in-51 c = rw c.in-51.is (c.checked-in-51.ensures _ _ (decoded c.decode_close_complete.result (λ u. CloseComplete) _ _ c.decode_close_complete.ensures.exact))

pub returns-in-110 : goal.returns-in-110
returns-in-110 c = rw c.in-110.is (c.checked-in-110.ensures _ _ (decoded c.decode_no_data.result (λ u. NoData) _ _ c.decode_no_data.ensures.exact))

pub returns-in-115 : goal.returns-in-115
returns-in-115 c = rw c.in-115.is (c.checked-in-115.ensures _ _ (decoded c.decode_portal_suspended.result (λ u. PortalSuspended) _ _ c.decode_portal_suspended.ensures.exact))
