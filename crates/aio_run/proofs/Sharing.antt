-- What is lent to the coroutines of streams may be shared by threads, where the device may go to another thread.
use denote.Builtin.{u32}
use denote.RattleType.{RattleType}
use denote.Ref.{NamedLft, ShrRef}
use denote.Param.Send.{IsSend, IsSync, sendable, shr_sync, view_send}
use denote.Param.SendFields.{declared_send, declared_sync, as_row_send, as_row_sync}
use denote.Struct.Field.{row_field, shr_ref_field}
use Rattle.aio_model.proofs.scripts.image_scripts.Script.TheSendSync.{the_sync as script_sync}
use Rattle.aio_model.specs.contracts.scripts.image_scripts.Script as Script
use Rattle.aio_words.specs.declared.traits.Device.{Ghosts}
use Rattle.co_mutex.proofs.lock.CoMutex.TheSendSync.{the_sync as lock_sync}
use Rattle.co_mutex.specs.contracts.lock.CoMutex as CoMutex
use Rattle.co_waits.proofs.rw_state.RwState.TheSendSync.{the_send as access_send}
use Rattle.img_shared.proofs.phases.Phase.TheSendSync.{the_send as phase_send}
use Rattle.img_shared.specs.contracts.image.Image as Image
use Rattle.img_shared.specs.contracts.image.Image.TheInside as Inside
use Rattle.img_shared.specs.contracts.journal.Entry as Entry
use Rattle.img_shared.specs.contracts.phases.Phase as Phase
use Rattle.img_shared.specs.contracts.journal.Ledger as Ledger
use Rattle.img_shared.specs.contracts.journal.Ledger.TheInside as LedgerInside
use Rattle.img_shared.specs.Notes.{note}
use Rattle.img_streams.specs.contracts.boxed.BoxedImage as BoxedImage
use Rattle.img_streams.specs.contracts.boxed.BoxedImage.TheInside as BoxedInside
use Rattle.img_streams.specs.contracts.rule.ImageRule as ImageRule
use Rattle.img_streams.specs.contracts.rule.StreamNote as StreamNote
use Rattle.img_streams.specs.contracts.stream.ServeEnv as ServeEnv
use Rattle.std.proofs.Crossing.{crosses, Box-send, Vec-send}

number_send : IsSend u32
number_send = search sendable

-- The journal: its snapshots own nothing.
module _ (D : RattleType) where
  entry_send : IsSend (Entry.the_row D)
  entry_send = search (crosses, sendable) depth 60 fits 20000

  ledger_send : IsSend (Ledger.the_row D)
  ledger_send =
      view_send (LedgerInside.the_row D) _ _ (Ledger.the_view D) (Ledger.the_invariant D)
      (declared_send (LedgerInside.the_type D) (Vec-send u32 number_send, (Vec-send u32 number_send, (Vec-send (Entry.the_row D) entry_send, tt))))

module _ (D : RattleType) (g : Ghosts D.Denot) where
  image_send : IsSend D → IsSend (Image.the_row D g)
  image_send d =
      view_send (Inside.the_row D g) _ _ (Image.the_view D g) (Image.the_invariant D g)
      (declared_send (Inside.the_type D g)
      (as_row_send (row_field D) d, (search sendable, (search (crosses, sendable), (search (crosses, sendable), (as_row_send (row_field (Ledger.the_row D)) (ledger_send D), (Vec-send Phase.the_row phase_send, (search (access_send, sendable), (Vec-send u32 number_send, tt)))))))))

  boxed_send : IsSend D → IsSend (BoxedImage.the_row D g)
  boxed_send d =
      view_send (BoxedInside.the_row D g) _ _ (BoxedImage.the_view D g) (BoxedImage.the_invariant D g)
      (declared_send (BoxedInside.the_type D g) (Box-send (Image.the_row D g) (image_send d), tt))

  -- the lock that the image lies behind
  abbrev Lock : RattleType
  Lock = CoMutex.the_row (ImageRule.the_row D) (BoxedImage.the_row D g) (StreamNote.the_row D) (record { note = λ k s. note g.bytes k s })

  image_lock_sync : IsSend D → IsSync Lock
  image_lock_sync d =
      lock_sync (ImageRule.the_row D) (BoxedImage.the_row D g) (StreamNote.the_row D) (record { note = λ k s. note g.bytes k s }) (boxed_send d)

  pub env_sync : (ℓ : NamedLft) (G R : RattleType) → IsSend D → IsSync G → IsSync R → IsSync (ServeEnv.the_row ℓ D G R g)
  env_sync ℓ G R d s r =
      declared_sync (ServeEnv.the_type ℓ D G R g)
      (as_row_sync (row_field (ShrRef ℓ.mir ℓ.lft R)) (shr_sync _ _ R r), (as_row_sync (shr_ref_field ℓ Lock tt) (shr_sync _ _ Lock (image_lock_sync d)), (as_row_sync (shr_ref_field ℓ Script.the_row tt) (shr_sync _ _ Script.the_row script_sync), (as_row_sync (row_field (ShrRef ℓ.mir ℓ.lft G)) (shr_sync _ _ G s), tt))))
