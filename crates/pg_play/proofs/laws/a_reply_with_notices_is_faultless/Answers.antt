use Rattle.std.proofs.Common.{◌≡◌, true, [], map, codes, inl, refl, arith, rules}
use Rattle.std.specs.List.{AllByRecursion}
use Rattle.pg_wire.specs.declared.error.ServerFault.{ServerFault}
use Rattle.pg_wire.specs.declared.error.ServerFault.TheVariants as faults
use Rattle.pg_wire.specs.Frame.{backend_tags, IsWhole}
use Rattle.pg_wire.specs.Cut.{BeginsNoFrame}
use Rattle.pg_wire.specs.Parts.{is_asynchronous}
use Rattle.pg_wire.specs.Backend.{backend_frame, NoticeResponse, ParameterStatus, NotificationResponse}
use Rattle.pg_wire.proofs.ExchangeLaws.{select_is_answered}
use Rattle.pg_stream.specs.Streams.{HeaderFault}
use Rattle.pg_stream.specs.Asynchronous.{IsSaid}
use Rattle.pg_play.specs.Noticed.{noticed}
use Rattle.pg_play.proofs.laws.a_reply_with_notices_is_faultless.Goals as goal

none_begins : BeginsNoFrame backend_tags []
none_begins frame after h e = cc

no_header : (fault : ServerFault) → HeaderFault [] fault → ⊥
no_header (faults.ShortLength tag size) h = omega (arith, h.0)
no_header (faults.UnknownTag tag) h = omega (arith, h.0)
no_header _ h = absurd h

whole : AllByRecursion (IsWhole backend_tags) (map backend_frame noticed)
whole = search rules

asides : AllByRecursion (λ frame. is_asynchronous frame ≡ true → IsSaid frame) (map backend_frame noticed)
asides = (
  λ a. absurd cc,
  (
    λ a. absurd cc,
    (
      λ a. absurd cc,
      (
        λ a. (NoticeResponse [], (tt, refl)),
        (
          λ a. (ParameterStatus (codes "TimeZone") (codes "UTC"), (search rules, refl)),
          (
            λ a. (NotificationResponse 1 (codes "a") [], (search rules, refl)),
            (λ a. absurd cc, tt),
          ),
        ),
      ),
    ),
  ),
)

pub returns : goal.returns
returns c link f e = record {
  no_fault = f;
  no_end = e;
  sent_first = ([], refl);
  cuts = record { text = refl; whole = whole; over = none_begins };
  headers = no_header;
  asides = asides;
  replies = select_is_answered;
  uncopied = (refl, (inl (codes "SELECT 1", refl), tt));
}
