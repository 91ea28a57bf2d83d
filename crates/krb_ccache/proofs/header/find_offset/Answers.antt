use Rattle.std.proofs.Common.{arith}
use Rattle.krb_ccache.proofs.Headers.{all_left, less_left, shorter, has_found, has_none}
use Rattle.krb_ccache.proofs.header.find_offset.Goals as goal

pub loop-tag-init : goal.loop-tag-init
loop-tag-init c = all_left c.args.header.now (λ i. omega (arith, c.type_inv.header i))

pub returns-then-tag-eq1 : goal.returns-then-tag-eq1
returns-then-tag-eq1 c = rw c.offset_in.ensures (has_found c.args.header.now c.loop-tag.rest.now c.in-Ok.value.now c.in-Ok.behind.now c.in-Ok.tag c.loop-tag.invariant c.in-Ok.ensures c.if-tag-eq1.true)

pub loop-tag-smaller : goal.loop-tag-smaller
loop-tag-smaller c = shorter c.args.header.now c.loop-tag.rest.now c.in-Ok.behind.now (c.in-Ok.tag, c.in-Ok.value.now) c.loop-tag.invariant c.in-Ok.ensures

pub loop-tag-preserved : goal.loop-tag-preserved
loop-tag-preserved c = less_left c.args.header.now c.loop-tag.rest.now c.in-Ok.behind.now (c.in-Ok.tag, c.in-Ok.value.now) c.loop-tag.invariant c.in-Ok.ensures c.if-tag-eq1.false

pub returns : goal.returns
returns c = has_none c.args.header.now c.loop-tag.rest.now c.loop-tag.invariant c.in_default.ensures
