use Rattle.std.proofs.Common.{◌≡◌, ◌∷◌, [], true, false, map, refl, sym, ap, ◌∙◌, arith}
use lib.ListN.{length-map}
use Rattle.std.specs.Cmp.{nat_cmp_total}
use Rattle.std.specs.Map.Iter.{deref_pair}
use Rattle.std.proofs.lemmas.List.{map-append}
use Rattle.std.proofs.lemmas.Bool.Decides.{nat_tests}
use Rattle.std.proofs.lemmas.Map.Iter.{rest_so_far, btree_map_turn}
use Rattle.krb_machine.specs.Described.{connection_of, connections_with}
use Rattle.krb_input.specs.Parted.{is_of}
use Rattle.krb_threads.specs.Journaled.{connections_of}
use Rattle.krb_threads.proofs.ConnectionsLemmas.{below-turn, put-own, put-other}
use Rattle.krb_threads.proofs.described.connections.Goals as goal

pub loop-id-preserved-in-Continue-1 : goal.loop-id-preserved-in-Continue-1
loop-id-preserved-in-Continue-1 c =
    let d = c.args.described.now in
    let front = map deref_pair c.loop-id.yielded in
    let id = c.in-Some.id.now in
    let endpoint = c.in-Some.endpoint.now in
    let began = c.into_iter-id-iterator.ensures.into_iter_gives ∙ c.iter-id-items.ensures.rest in
    let turn = btree_map_turn deref_pair c.loop-id.yielded c.into_iter-id-iterator.result c.loop-id.id-iterator c.next.new.self c.next.result (c.in-Some.id, c.in-Some.endpoint) c.loop-id.yielded_by c.in-Some.is
    c.next.ensures.steps nat_cmp_total d.endpoints began c.iter-id-items.ensures.ordered in
    let split = sym began ∙ rest_so_far deref_pair c.loop-id.yielded c.into_iter-id-iterator.result c.loop-id.id-iterator c.loop-id.yielded_by in
    let below = below-turn d.endpoints.entries front c.loop-id.id-iterator id split (λ i e lt. turn.2 i e (omega (arith, lt, length-map c.loop-id.yielded deref_pair))) in
    let is : is_of c.args.worker id ≡ true = let e = c.if-id-worker.true in grind (arith, nat_tests) in
    put-own c.args.worker d.skew front id endpoint (connection_of d.skew endpoint) c.loop-id.made.entries c.put.new.made.entries c.loop-id.invariant is refl below c.in_ok-put.ensures
    ∙ ap (λ es. connections_of c.args.worker (connections_with d.skew es)) (sym (map-append deref_pair c.loop-id.yielded ((c.in-Some.id, c.in-Some.endpoint) ∷ [])))

pub loop-id-preserved : goal.loop-id-preserved
loop-id-preserved c =
    let d = c.args.described.now in
    let is : is_of c.args.worker c.in-Some.id.now ≡ false = let e = c.if-id-worker.false in grind (arith, nat_tests) in
    c.loop-id.invariant ∙ put-other c.args.worker d.skew (map deref_pair c.loop-id.yielded) c.in-Some.id.now c.in-Some.endpoint.now is
    ∙ ap (λ es. connections_of c.args.worker (connections_with d.skew es)) (sym (map-append deref_pair c.loop-id.yielded ((c.in-Some.id, c.in-Some.endpoint) ∷ [])))
