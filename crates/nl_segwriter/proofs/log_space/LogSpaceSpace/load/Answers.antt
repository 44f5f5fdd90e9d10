use Rattle.std.proofs.Common.{◌≡◌, ◌*◌, ◌<◌, length, ap, sym, ◌∙◌, subst, refl, inl, inr, Err}
use Rattle.nl_types.specs.declared.geometry.Geometry.{Geometry}
use Rattle.nl_types.specs.Blocks.Segments.{Segments}
use Rattle.nl_types.specs.Facts.UsedParts.{used_inside}
use Rattle.nl_types.specs.declared.error.VolError.TheVariants as error
use Rattle.nl_device.specs.declared.device.DeviceError.{DeviceError}
use Rattle.nl_device.specs.declared.device.DeviceError.TheVariants as device
use Rattle.nl_device.specs.Pages.{DevicePages}
use Rattle.nl_vstore.specs.Appended.{IsLoadError}
use Rattle.nl_vstore.specs.Logs.{AreWholeLogs}
use Rattle.nl_segwriter.specs.Writing.{refusal_of, space_content}
use Rattle.nl_segwriter.specs.Facts.WholeLogs.{used_stored}
use Rattle.nl_segwriter.proofs.log_space.LogSpaceSpace.load.Goals as goal

pub get-requires : goal.get-requires
get-requires g c =
    let s : Segments = c.args.self.now.table in
    let inside : c.args.number < length s.each * s.blocks =
    used_inside s c.args.number c.args.self.now.limits.tidy c.requires in
    rw (c.args.self.now.segment_count, c.args.self.now.segment_size) at inside

pub invariant_of-self : goal.invariant_of-self
invariant_of-self g c =
    let s : Segments = c.args.self.now.table in
    let table = c.args.self.now.payload in
    let shape : g.D.Device.shape c.args.self.now.device ≡ g.D.Device.shape c.get.new.self =
    sym c.get.ensures.shape in
    let same : g.D.Device.pages c.args.self.now.device ≡ g.D.Device.pages c.get.new.self = λ i b.
    sym (c.get.ensures.same b) i in
    record {
      segment_size = c.args.self.now.segment_size ∙ ap (λ (x : Geometry). x.blocks) shape;
      segment_count = c.args.self.now.segment_count ∙ ap (λ (x : Geometry). x.segments) shape;
      limits = c.args.self.now.limits;
      sized = c.args.self.now.sized ∙ ap (λ (x : Geometry). x.segments * x.blocks) shape;
      unheld = c.args.self.now.unheld;
      logged = c.args.self.now.logged;
      whole =
          subst
          (λ (pages : DevicePages). AreWholeLogs (space_content s table pages)) same c.args.self.now.whole;
    }

pub unreachable-requires : goal.unreachable-requires
unreachable-requires g c =
    used_stored
    (space_content c.args.self.now.table c.args.self.now.payload (g.D.Device.pages c.args.self.now.device))
    c.args.number c.args.self.now.whole c.requires
    (sym c.in-Ok-None.ensures.found ∙ c.in-Ok-None.field-0-is)

-- a device that is at fault is told of as such, and all that it refuses is told of
fault_of : (refusal : DeviceError) → refusal_of refusal ≡ error.Fault → refusal ≡ device.Fault
fault_of device.Fault is = refl
fault_of device.Memory is = absurd (cc)

load_error : (refusal : DeviceError) → IsLoadError (refusal_of refusal)
load_error device.Fault = inl refl
load_error device.Memory = inr refl

pub returns-in-Ok-Some-clause-same : goal.returns-in-Ok-Some-clause-same
returns-in-Ok-Some-clause-same g c = λ i.
    space_content c.args.self.now.table c.args.self.now.payload (λ b. c.get.ensures.same b i)

pub returns-in-Err-clause-same : goal.returns-in-Err-clause-same
returns-in-Err-clause-same g c = λ i.
    space_content c.args.self.now.table c.args.self.now.payload (λ b. c.get.ensures.same b i)

pub returns-in-Err-clause-fault : goal.returns-in-Err-clause-fault
returns-in-Err-clause-fault g c = λ is.
    let told : c.refusal_of.result ≡ error.Fault = cc in
    c.in-Err.ensures.failed (ap Err (fault_of c.in-Err.refusal (sym c.refusal_of.ensures ∙ told)))

pub returns-in-Err-clause-errors : goal.returns-in-Err-clause-errors
returns-in-Err-clause-errors g c =
    subst IsLoadError (sym c.refusal_of.ensures) (load_error c.in-Err.refusal)
