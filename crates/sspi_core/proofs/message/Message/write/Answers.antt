use Rattle.std.proofs.Common.{◌≡◌, ◌≤◌, Option, Some, length, subst, refl}
use Rattle.std.specs.Prelude.{IfSome}
use Rattle.sspi_core.specs.Buffer.{Buffer}
use Rattle.sspi_core.specs.Messages.{find_part}
use Rattle.sspi_core.proofs.PartLemmas.{put_in_place, kept_in_place, found_in_place, stays_where_none, kept_by_write}
use Rattle.sspi_core.proofs.message.Message.write.Goals as goal

pub invariant_of-self : goal.invariant_of-self
invariant_of-self c =
    kept_in_place c.args.part (λ b. record b { octets = c.args.octets }) c.self.inside.buffers.items c.deref.result.now c.in-Some.i c.index_mut-buffer.result.now c.put.new.self
    c.deref.ensures.value c.in-Some.ensures c.index_mut-buffer.ensures.value c.put.ensures (kept_by_write c.args.octets) (λ b. refl) c.self.invariant

pub returns-in-Some : goal.returns-in-Some
returns-in-Some c =
    put_in_place c.args.part (λ b. record b { octets = c.args.octets }) c.self.inside.buffers.items c.deref.result.now c.args.self.now c.in-Some.i c.index_mut-buffer.result.now c.put.new.self
    c.deref.ensures.value c.self.view_is c.in-Some.ensures c.index_mut-buffer.ensures.value c.put.ensures

pub returns-in_default : goal.returns-in_default
returns-in_default c =
    stays_where_none c.args.part (λ b. record b { octets = c.args.octets }) c.self.inside.buffers.items c.deref.result.now c.args.self.now c.deref.ensures.value c.self.view_is c.in_default.ensures

pub put-requires : goal.put-requires
put-requires c =
    let found : find_part c.args.part c.args.self.now ≡ Some c.index_mut-buffer.result.now =
    found_in_place c.args.part c.self.inside.buffers.items c.deref.result.now c.args.self.now c.in-Some.i c.index_mut-buffer.result.now
    c.deref.ensures.value c.self.view_is c.in-Some.ensures c.index_mut-buffer.ensures.value in
    let fits : IfSome (Some c.index_mut-buffer.result.now) (λ b. length c.args.octets ≤ b.limit) = subst (λ (o : Option Buffer). IfSome o (λ b. length c.args.octets ≤ b.limit)) found c.requires in
    fits
