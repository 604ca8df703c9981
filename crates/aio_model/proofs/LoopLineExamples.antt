-- The lines of replies, computed: what stands here was worked out by hand.
use Rattle.std.specs.Fmt.{digits}
use Rattle.std.proofs.Common.{◌≡◌, true, false, [], ◌∷◌, Some, None, refl, codes}
use Rattle.aio_model.specs.declared.loops.commits.Commit.TheVariants.{Sleep, Awake}
use Rattle.aio_model.specs.declared.loops.commits.Why.TheVariants.{Urgent, Event, Notified}
use Rattle.aio_model.specs.declared.scripts.loop_scripts.Command.TheVariants.{Schedule, Cancel}
use Rattle.aio_model.specs.declared.loops.ran_lists.Called.TheVariants.{Handle, Once}
use Rattle.aio_model.specs.declared.scripts.loop_replies.LoopReply.TheVariants.{Flagged, Placed, Ran, Committed, WasSet, Cleared}
use Rattle.aio_model.specs.Scripts.LoopLines.{ran_reply, reply_text}

pending_and_deleted : reply_text (Flagged (Schedule 0) (record { pending = true; scheduled = false; deleted = true; oneshot = false; idle = false }))
    ≡ codes "schedule 0 was P-D--\n"
unfolding digits
pending_and_deleted = refl

idle_and_scheduled : reply_text (Flagged (Cancel 12) (record { pending = true; scheduled = true; deleted = false; oneshot = false; idle = true }))
    ≡ codes "cancel 12 was PS--I\n"
unfolding digits
idle_and_scheduled = refl

newest_first : reply_text (ran_reply (Handle 2 ∷ Handle 1 ∷ Handle 0 ∷ []) true 0) ≡ codes "poll ran 2 1 0 progress yes cut 0\n"
unfolding digits
newest_first = refl

none_called : reply_text (ran_reply [] false 1) ≡ codes "poll ran - progress no cut 1\n"
unfolding digits
none_called = refl

one_shot_called : reply_text (ran_reply (Once 7 ∷ []) true 0) ≡ codes "poll ran o7 progress yes cut 0\n"
unfolding digits
one_shot_called = refl

some_left_out : reply_text (Ran (Handle 3 ∷ []) 20 true 0) ≡ codes "poll ran 3 more 20 progress yes cut 0\n"
unfolding digits
some_left_out = refl

put : reply_text (Placed 7 true) ≡ codes "once 7 put\n"
unfolding digits
put = refl

no_room : reply_text (Placed 8 false) ≡ codes "once 8 noroom\n"
unfolding digits
no_room = refl

urgent : reply_text (Committed (Awake (Urgent 0))) ≡ codes "commit awake urgent 0\n"
unfolding digits
urgent = refl

event : reply_text (Committed (Awake (Event 3))) ≡ codes "commit awake event 3\n"
unfolding digits
event = refl

notified : reply_text (Committed (Awake Notified)) ≡ codes "commit awake notified\n"
notified = refl

forever : reply_text (Committed (Sleep None)) ≡ codes "commit sleep forever\n"
forever = refl

ten_ms : reply_text (Committed (Sleep (Some 10000000))) ≡ codes "commit sleep 10000000\n"
unfolding digits
ten_ms = refl

set_and_cleared : reply_text (WasSet 3) ≡ codes "set 3\n"
unfolding digits
set_and_cleared = refl

was_set : reply_text (Cleared 3 true) ≡ codes "clear 3 was 1\n"
unfolding digits
was_set = refl
