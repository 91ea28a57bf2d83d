-- The messages of one end open at the other, in their order and in any.
use Rattle.std.proofs.Common.{◌≡◌, ℕ, suc, ◌+◌, ◌-◌, ◌*◌, ◌%◌, ◌^◌, ◌<◌, ◌≤◌, ℤ, pos, ◌+ℤ◌, ◌-ℤ◌, Bool, true, false, List, [], ◌∷◌, ◌++◌, length, take, refl, sym, ap, ap₂, max, fold, map, ◌∙◌, subst, inl, inr, arith, Ok}
use Rattle.std.specs.Prelude.{Option, Some, ◌⊎◌, ◌||◌, ◌==◌, int_lt, nat_lt, nat_le, bit_or, if◌then◌else◌}
use Rattle.std.specs.Int.{int_max}
use Rattle.std.specs.Ordering.{int_eq}
use Rattle.std.proofs.lemmas.Bool.{cases_lt, lt-ltb, le-leb, cases_eq, eq-eqb, ne_eqb, and_from, and_parts, leb-true, ltb-true, false_from_ne_true}
use Rattle.std.proofs.lemmas.Int.{ints, clamps}
use Rattle.std.proofs.lemmas.List.{map-append}
use Rattle.std.proofs.lemmas.List.Sums.{fold-append}
use Rattle.sspi_core.specs.Buffer.{Buffer}
use Rattle.krb_context.specs.declared.context.Kerberos.{Kerberos}
use Rattle.krb_context.specs.declared.window.NumberVerdict.TheVariants.{Fresh, Old, Repeated}
use Rattle.krb_context.specs.Contexts.{next_number, number_after_messages}
use Rattle.krb_context.specs.Header.{number_of}
use Rattle.krb_context.specs.Peers.{ArePeers, IsDelivered}
use Rattle.krb_context.specs.Places.{number_at, ahead, is_ahead, greatest, place_after, was_opened, verdict_after, verdict_of, opened}
use Rattle.krb_context.specs.Unwraps.{Unwraps, message_number}
use Rattle.krb_context.specs.Window.{Window, StandsFor, has_bit, number_verdict, moved_up, noted}
use Rattle.krb_context.proofs.PeerLemmas.{opens_there}
use Rattle.krb_context.proofs.PlaceLemmas.{number_at-lt, number_at-plus, number_at-pos, int_eq-same, int_eq-apart}
use Rattle.krb_context.proofs.ReadyLemmas.{is_wrapped}
use Rattle.krb_context.proofs.SizeLemmas.{IsSized, wrapped_sizes, number_after_messages-is}
use Rattle.krb_context.proofs.WindowLemmas.{judged_is, noted_is}
use Rattle.krb_laws_ends.specs.Flow.{numbered, place_from, Flows, FlowsOn}
use Rattle.krb_laws_ends.specs.Messages.{Message, text_of, IsSent, wrapped_one, opened_one, AreSent, AreOpened, IsCaughtUp, Placed, AreAmongSent, places_of, messages_of, was_handed, IsNext, IsInTime, AreInTime, ComeBehind, AreInOrder}

-- ---- one message

-- a message that was sent opens where its number is fresh
message_opens : (sender receiver : Kerberos) (message : Message) → ArePeers sender receiver → IsSent sender message
    → number_verdict receiver.window (next_number sender.seq_number) ≡ Fresh → Unwraps receiver message.received (Ok (text_of message))
message_opens sender receiver message peers sent fresh =
    let w = is_wrapped sender message.confounder message.sent message.made sent.wraps in
    opens_there sender receiver w.key message.confounder message.sent message.received peers sent.confounder_size sent.confounder_octets sent.text_octets w.ready
    (subst (λ (made : List Buffer). IsDelivered (text_of message) made message.received) w.is sent.delivered) fresh

-- its number is the sender's next
number_is : (sender receiver : Kerberos) (message : Message) → ArePeers sender receiver → IsSent sender message
    → message_number message.received ≡ next_number sender.seq_number
number_is sender receiver message peers sent =
    let w = is_wrapped sender message.confounder message.sent message.made sent.wraps in
    let sized : IsSized sender.encryption_params.ec (length (text_of message)) (next_number sender.seq_number) message.made =
    subst (λ (made : List Buffer). IsSized sender.encryption_params.ec (length (text_of message)) (next_number sender.seq_number) made) (sym w.is)
    (wrapped_sizes sender w.key message.confounder message.sent peers.small sent.confounder_size sent.confounder_octets sent.text_octets w.ready) in
    ap (λ (text : List ℕ). number_of (take 16 text)) sent.delivered.text ∙ sized.number

-- ---- in their order

ahead_by_one : (number : ℕ) → number < 2 ^ 32 → ahead number (next_number number) ≡ 1
ahead_by_one number small = omega arith

one_ahead_fresh : (window : Window) (number : ℕ) → ahead window.newest number ≡ 1 → number_verdict window number ≡ Fresh
one_ahead_fresh window number one =
    let P : ℕ → Type 0 = λ d. (if window.mask == 0 then Fresh
    else if is_ahead d then Fresh
    else if nat_le 64 (ahead number window.newest) then Old
    else if has_bit window.mask (ahead number window.newest) then Repeated
    else Fresh) ≡ Fresh in
    subst P (sym one) (elim (window.mask == 0) as (λ v. (if v then Fresh else Fresh) ≡ Fresh) [ true ↦ refl | false ↦ refl ])

one_ahead_newest : (window : Window) (number : ℕ) → ahead window.newest number ≡ 1 → (noted window number).newest ≡ number
one_ahead_newest window number one =
    let first : Window = record { newest = number; mask = 1 } in
    let moved : Window = record { newest = number; mask = moved_up window.mask (ahead window.newest number) } in
    let added : Window = record window { mask = bit_or window.mask (1 * 2 ^ ahead number window.newest % 2 ^ 64) } in
    let P : ℕ → Type 0 = λ d. (if window.mask == 0 then first else if is_ahead d then moved else added).newest ≡ number in
    subst P (sym one) (elim (window.mask == 0) as (λ v. (if v then first else moved).newest ≡ number) [ true ↦ refl | false ↦ refl ])

next_fresh : (window : Window) (number : ℕ) → number < 2 ^ 32 → (window.mask ≡ 0) ⊎ (window.newest ≡ number) → number_verdict window (next_number number) ≡ Fresh
next_fresh window number small (inl empty) = rw empty refl
next_fresh window number small (inr same) =
    one_ahead_fresh window (next_number number) (ap (λ (n : ℕ). ahead n (next_number number)) same ∙ ahead_by_one number small)

next_newest : (window : Window) (number : ℕ) → number < 2 ^ 32 → (window.mask ≡ 0) ⊎ (window.newest ≡ number) → (noted window (next_number number)).newest ≡ next_number number
next_newest window number small (inl empty) = rw empty refl
next_newest window number small (inr same) =
    one_ahead_newest window (next_number number) (ap (λ (n : ℕ). ahead n (next_number number)) same ∙ ahead_by_one number small)

pub opened_in_order : (sender receiver : Kerberos) (messages : List Message) → ArePeers sender receiver → IsCaughtUp sender receiver → AreSent sender messages
    → AreOpened receiver messages
opened_in_order sender receiver [] peers up sent = tt
opened_in_order sender receiver (message ∷ messages) peers up sent =
    let number : ℕ = next_number sender.seq_number in
    let is : message_number message.received ≡ number = number_is sender receiver message peers sent.0 in
    let newest : (noted receiver.window (message_number message.received)).newest ≡ number =
    ap (λ (n : ℕ). (noted receiver.window n).newest) is ∙ next_newest receiver.window sender.seq_number up.small up.so in (
      message_opens sender receiver message peers sent.0 (next_fresh receiver.window sender.seq_number up.small up.so),
      opened_in_order (wrapped_one sender) (opened_one (message_number message.received) receiver) messages
          (record { roles = peers.roles; key = peers.key; suite = peers.suite; filler = peers.filler; small = peers.small })
          (record { small = omega arith; so = inr newest }) sent.1,
    )

-- ---- in any order

-- its number
sent_number : (number behind : ℕ) (base : ℤ) → number < 2 ^ 32 → number_at base ≡ next_number number
    → number_at (place_from base behind) ≡ next_number (number_after_messages number behind)
sent_number number behind base small first =
    omega (arith, number_at-plus base behind, first, number_after_messages-is number behind small)

max_is : (base : ℤ) (a b : ℕ) → int_max (place_from base a) (place_from base b) ≡ place_from base (max a b)
max_is base a b = omega (arith, ints, clamps)

top_is : (base : ℤ) (first : ℕ) (before : List ℕ) → fold int_max (place_from base first) (map (place_from base) before) ≡ place_from base (fold max first before)
top_is base first [] = refl
top_is base first (next ∷ rest) = ap (λ (x : ℤ). fold int_max x (map (place_from base) rest)) (max_is base first next) ∙ top_is base (max first next) rest

same_place : (base : ℤ) (a b : ℕ) → int_eq (place_from base a) (place_from base b) ≡ (a == b)
same_place base a b = elim (cases_eq a b) [
  | inl same ↦ int_eq-same (place_from base a) (place_from base b) (ap (place_from base) same) ∙ sym (eq-eqb a b same)
  | inr apart ↦ int_eq-apart (place_from base a) (place_from base b) (λ same. apart (omega (arith, ints, same))) ∙ sym (ne_eqb a b apart)
]

handed_is : (base : ℤ) (before : List ℕ) (place : ℕ) → was_opened (map (place_from base) before) (place_from base place) ≡ was_handed before place
handed_is base [] place = refl
handed_is base (other ∷ before) place = ap₂ (λ (x y : Bool). x || y) (same_place base other place) (handed_is base before place)

-- modulo 2^32, a number that is ahead by a distance has that distance, and a number that is a little before is not ahead
ahead_of : (b from distance : ℕ) → distance < 2 ^ 32 → ahead ((b + from) % 2 ^ 32) ((b + (from + distance)) % 2 ^ 32) ≡ distance
ahead_of b from distance small = omega arith

is_ahead-of : (distance : ℕ) → 1 ≤ distance → distance < 2 ^ 31 → is_ahead distance ≡ true
is_ahead-of distance some near = and_from (nat_le 1 distance) (nat_lt distance (2 ^ 31)) (le-leb 1 distance some) (lt-ltb distance (2 ^ 31) near)

not_ahead : (distance : ℕ) → ((1 ≤ distance) × (distance < 2 ^ 31) → ⊥) → is_ahead distance ≡ false
not_ahead distance far = false_from_ne_true (is_ahead distance) (λ ahead.
    let both = and_parts (nat_le 1 distance) (nat_lt distance (2 ^ 31)) ahead in
    far (leb-true 1 distance both.0, ltb-true distance (2 ^ 31) both.1))

behind_not_ahead : (b to distance : ℕ) → distance < 64 → is_ahead (ahead ((b + (to + distance)) % 2 ^ 32) ((b + to) % 2 ^ 32)) ≡ false
behind_not_ahead b to distance near = not_ahead (ahead ((b + (to + distance)) % 2 ^ 32) ((b + to) % 2 ^ 32)) (λ both. omega (arith, both))

-- the place of a number that comes in time
comes_ahead : (base : ℤ) (top distance number : ℕ) → 1 ≤ distance → distance < 2 ^ 31 → number ≡ number_at (place_from base (top + distance))
    → place_after (Some (place_from base top)) number ≡ place_from base (top + distance)
comes_ahead base top distance number some near is =
    let d : ahead (number_at (place_from base top)) number ≡ distance =
    ap₂ (λ (a b : ℕ). ahead a b) (number_at-plus base top) (is ∙ number_at-plus base (top + distance)) ∙ ahead_of (number_at base) top distance (omega arith) in
    let yes : is_ahead (ahead (number_at (place_from base top)) number) ≡ true = ap (λ (n : ℕ). is_ahead n) d ∙ is_ahead-of distance some near in
    rw yes (ap (λ (n : ℕ). place_from base top +ℤ pos n) d ∙ omega (arith, ints))

comes_behind : (base : ℤ) (place distance number : ℕ) → distance < 64 → number ≡ number_at (place_from base place)
    → place_after (Some (place_from base (place + distance))) number ≡ place_from base place
comes_behind base place distance number near is =
    let n : number ≡ (number_at base + place) % 2 ^ 32 = is ∙ number_at-plus base place in
    let top : number_at (place_from base (place + distance)) ≡ (number_at base + (place + distance)) % 2 ^ 32 = number_at-plus base (place + distance) in
    let d : ahead number (number_at (place_from base (place + distance))) ≡ distance =
    ap₂ (λ (a b : ℕ). ahead a b) n top ∙ ahead_of (number_at base) place distance (omega arith) in
    let not : is_ahead (ahead (number_at (place_from base (place + distance))) number) ≡ false =
    ap₂ (λ (a b : ℕ). is_ahead (ahead a b)) top n ∙ behind_not_ahead (number_at base) place distance near in
    rw not (ap (λ (n : ℕ). place_from base (place + distance) -ℤ pos n) d ∙ omega (arith, ints))

comes_at : (base : ℤ) (top place number : ℕ) → top < place + 64 → place < top + 2 ^ 31 → number ≡ number_at (place_from base place)
    → place_after (Some (place_from base top)) number ≡ place_from base place
comes_at base top place number young near is = elim (cases_lt top place) [
  | inl up ↦
      let P : ℕ → Type 0 = λ p. number ≡ number_at (place_from base p) → place_after (Some (place_from base top)) number ≡ place_from base p in
      let sum : top + (place - top) ≡ place = omega arith in
      subst P sum (comes_ahead base top (place - top) number (omega arith) (omega arith)) is
  | inr down ↦
      let P : ℕ → Type 0 = λ t. place_after (Some (place_from base t)) number ≡ place_from base place in
      let sum : place + (top - place) ≡ top = omega arith in
      subst P sum (comes_behind base place (top - place) number (omega arith) is)
]

fresh_at : (newest place : ℤ) (places : List ℤ) (number : ℕ) → greatest places ≡ Some newest → place_after (Some newest) number ≡ place
    → int_lt (newest -ℤ pos 64) place ≡ true → was_opened places place ≡ false → verdict_of places number ≡ Fresh
fresh_at newest place places number top comes young none =
    ap (λ (g : Option ℤ). verdict_after g places (place_after g number)) top ∙ ap (λ (p : ℤ). verdict_after (Some newest) places p) comes ∙ rw (young, none) refl

-- a message in time is fresh, and has its place
pub record IsOpenedNext (base : ℤ) (before : List ℕ) (place number : ℕ) : Type 0 where
  pub fresh : verdict_of (map (place_from base) before) number ≡ Fresh
  pub places : opened (map (place_from base) before) number ≡ map (place_from base) (before ++ place ∷ [])

next_opened : (base : ℤ) (first : ℕ) (before : List ℕ) (place number : ℕ) → number ≡ number_at (place_from base place) → IsNext (fold max first before) (first ∷ before) place
    → IsOpenedNext base (first ∷ before) place number
next_opened base first before place number is next =
    let top : ℕ = fold max first before in
    let places : List ℤ = map (place_from base) (first ∷ before) in
    let most : greatest places ≡ Some (place_from base top) = ap (λ (x : ℤ). Some x) (top_is base first before) in
    let comes : place_after (Some (place_from base top)) number ≡ place_from base place = comes_at base top place number next.young next.near is in
    let t : top < place + 64 = next.young in
    let young : int_lt (place_from base top -ℤ pos 64) (place_from base place) ≡ true = grind (arith, ints) in
    record {
      fresh = fresh_at (place_from base top) (place_from base place) places number most comes young (handed_is base (first ∷ before) place ∙ next.first);
      places =
          ap (λ (g : Option ℤ). places ++ place_after g number ∷ []) most ∙ ap (λ (p : ℤ). places ++ p ∷ []) comes
          ∙ sym (map-append (place_from base) (first ∷ before) (place ∷ []));
    }

-- ---- one direction

flow_opens_behind : (sender receiver : Kerberos) (number sent first : ℕ) (before : List ℕ) (place : ℕ) (message : Message) → Flows sender receiver number sent (first ∷ before)
    → IsInTime (first ∷ before) place → IsSent (numbered number place sender) message → FlowsOn sender receiver number sent (first ∷ before) place message
flow_opens_behind sender receiver number sent first before place message flow time is_sent =
    let peers = flow.peers in
    let base : ℤ = flow.base in
    let one : Kerberos = numbered number place sender in
    let n : ℕ = next_number one.seq_number in
    let there : ArePeers one receiver = record { roles = peers.roles; key = peers.key; suite = peers.suite; filler = peers.filler; small = peers.small } in
    let named : message_number message.received ≡ n = number_is one receiver message there is_sent in
    let comes : IsOpenedNext base (first ∷ before) place n = next_opened base first before place n (sym (sent_number number place base flow.small flow.first_number)) time in
    let fresh : number_verdict receiver.window n ≡ Fresh = judged_is receiver.window (map (place_from base) (first ∷ before)) n flow.window ∙ comes.fresh in
    let after : StandsFor (noted receiver.window n) (map (place_from base) (first ∷ before ++ place ∷ [])) =
    subst (λ (places : List ℤ). StandsFor (noted receiver.window n) places) comes.places
    (noted_is receiver.window (map (place_from base) (first ∷ before)) n (omega arith) flow.window fresh) in
    record {
      opens = message_opens one receiver message there is_sent fresh;
      on = record {
        peers = record { roles = peers.roles; key = peers.key; suite = peers.suite; filler = peers.filler; small = peers.small };
        small = flow.small;
        sender_number = flow.sender_number;
        base = base;
        first_number = flow.first_number;
        window = subst (λ (m : ℕ). StandsFor (noted receiver.window m) (map (place_from base) (first ∷ before ++ place ∷ []))) (sym named) after;
      };
    }

-- the base if the first delivered message is the one after `behind` others
first_base : (number behind : ℕ) → number < 2 ^ 32 → number_at (pos (next_number (number_after_messages number behind)) -ℤ pos behind) ≡ next_number number
first_base number behind small =
    let n : ℕ = next_number (number_after_messages number behind) in
    let base : ℤ = pos n -ℤ pos behind in
    let sum : base +ℤ pos behind ≡ pos n = omega (arith, ints) in
    let up : number_at (base +ℤ pos behind) ≡ n = ap (λ (p : ℤ). number_at p) sum ∙ number_at-pos n (omega arith) in
    let is : number_at (base +ℤ pos behind) ≡ (number_at base + behind) % 2 ^ 32 = number_at-plus base behind in
    omega (arith, up, is, number_at-lt base, number_after_messages-is number behind small)

flow_opens_first : (sender receiver : Kerberos) (number sent place : ℕ) (message : Message) → Flows sender receiver number sent []
    → IsSent (numbered number place sender) message → FlowsOn sender receiver number sent [] place message
flow_opens_first sender receiver number sent place message flow is_sent =
    let peers = flow.peers in
    let one : Kerberos = numbered number place sender in
    let n : ℕ = next_number one.seq_number in
    let base : ℤ = pos n -ℤ pos place in
    let there : ArePeers one receiver = record { roles = peers.roles; key = peers.key; suite = peers.suite; filler = peers.filler; small = peers.small } in
    let named : message_number message.received ≡ n = number_is one receiver message there is_sent in
    let fresh : number_verdict receiver.window n ≡ Fresh = judged_is receiver.window [] n flow.window in
    let first : pos n ∷ [] ≡ map (place_from base) (place ∷ []) = ap (λ (p : ℤ). p ∷ []) (omega (arith, ints)) in
    let after : StandsFor (noted receiver.window n) (map (place_from base) (place ∷ [])) =
    subst (λ (places : List ℤ). StandsFor (noted receiver.window n) places) first (noted_is receiver.window [] n (omega arith) flow.window fresh) in
    record {
      opens = message_opens one receiver message there is_sent fresh;
      on = record {
        peers = record { roles = peers.roles; key = peers.key; suite = peers.suite; filler = peers.filler; small = peers.small };
        small = flow.small;
        sender_number = flow.sender_number;
        base = base;
        first_number = first_base number place flow.small;
        window = subst (λ (m : ℕ). StandsFor (noted receiver.window m) (map (place_from base) (place ∷ []))) (sym named) after;
      };
    }

-- a message that comes in time opens
pub flow_opens : (sender receiver : Kerberos) (number sent : ℕ) (before : List ℕ) (place : ℕ) (message : Message) → Flows sender receiver number sent before
    → IsInTime before place → IsSent (numbered number place sender) message → FlowsOn sender receiver number sent before place message
flow_opens sender receiver number sent [] place message flow time is_sent = flow_opens_first sender receiver number sent place message flow is_sent
flow_opens sender receiver number sent (first ∷ before) place message flow time is_sent =
    flow_opens_behind sender receiver number sent first before place message flow time is_sent

-- a direction begins where the receiver has opened nothing
pub flow_begins : (sender receiver : Kerberos) → ArePeers sender receiver → sender.seq_number < 2 ^ 32 → receiver.window.mask ≡ 0 → Flows sender receiver sender.seq_number 0 []
flow_begins sender receiver peers small new = record {
  peers = peers;
  small = small;
  sender_number = refl;
  base = pos (next_number sender.seq_number);
  first_number = number_at-pos (next_number sender.seq_number) (omega arith);
  window = new;
}

-- the sender wraps one more
pub flow_wraps : (sender receiver : Kerberos) (number sent : ℕ) (before : List ℕ) → Flows sender receiver number sent before → Flows (wrapped_one sender) receiver number (suc sent) before
flow_wraps sender receiver number sent before flow = record {
  peers = record { roles = flow.peers.roles; key = flow.peers.key; suite = flow.peers.suite; filler = flow.peers.filler; small = flow.peers.small };
  small = flow.small;
  sender_number = ap next_number flow.sender_number;
  base = flow.base;
  first_number = flow.first_number;
  window = flow.window;
}

-- what the sender opens and the receiver wraps, which is the other direction's, changes nothing
pub flow_beside : (sender receiver : Kerberos) (number sent : ℕ) (before : List ℕ) (other : ℕ) → Flows sender receiver number sent before
    → Flows (opened_one other sender) receiver number sent before × Flows sender (wrapped_one receiver) number sent before
flow_beside sender receiver number sent before other flow = (
  record {
    peers = record { roles = flow.peers.roles; key = flow.peers.key; suite = flow.peers.suite; filler = flow.peers.filler; small = flow.peers.small };
    small = flow.small;
    sender_number = flow.sender_number;
    base = flow.base;
    first_number = flow.first_number;
    window = flow.window;
  },
  record {
    peers = record { roles = flow.peers.roles; key = flow.peers.key; suite = flow.peers.suite; filler = flow.peers.filler; small = flow.peers.small };
    small = flow.small;
    sender_number = flow.sender_number;
    base = flow.base;
    first_number = flow.first_number;
    window = flow.window;
  },
)

-- a message that is wrapped now comes after those that were wrapped
pub sent_now : (sender receiver : Kerberos) (number sent : ℕ) (before : List ℕ) (message : Message) → Flows sender receiver number sent before → IsSent sender message
    → IsSent (numbered number sent sender) message
sent_now sender receiver number sent before message flow is_sent =
    subst (λ (n : ℕ). IsSent (record sender { seq_number = n }) message) flow.sender_number is_sent

-- ---- a list of messages

flow_opens_all : (sender receiver : Kerberos) (number sent : ℕ) (before : List ℕ) (handed : List Placed) → Flows sender receiver number sent before → number ≡ sender.seq_number
    → AreAmongSent sender handed → AreInTime before (places_of handed) → AreOpened receiver (messages_of handed)
flow_opens_all sender receiver number sent before [] flow same are_sent times = tt
flow_opens_all sender receiver number sent before (next ∷ rest) flow same are_sent times =
    let is_sent : IsSent (numbered number next.behind sender) next.message =
    subst (λ (n : ℕ). IsSent (numbered n next.behind sender) next.message) (sym same) are_sent.0 in
    let step = flow_opens sender receiver number sent before next.behind next.message flow times.0 is_sent in
    (step.opens, flow_opens_all sender (opened_one (message_number next.message.received) receiver) number sent (before ++ next.behind ∷ []) rest step.on same are_sent.1 times.1)

pub opened_in_time : (sender receiver : Kerberos) (handed : List Placed) → ArePeers sender receiver → sender.seq_number < 2 ^ 32 → receiver.window.mask ≡ 0
    → AreAmongSent sender handed → AreInTime [] (places_of handed) → AreOpened receiver (messages_of handed)
opened_in_time sender receiver handed peers small new are_sent times =
    flow_opens_all sender receiver sender.seq_number 0 [] handed (flow_begins sender receiver peers small new) refl are_sent times

-- ---- in the order of sending, with some left out

least_of_top : (first : ℕ) (others : List ℕ) → first ≤ fold max first others
least_of_top first [] = omega arith
least_of_top first (next ∷ others) = let more = least_of_top (max first next) others in omega (arith, more)

-- no message at a place above the furthest was delivered
none_handed : (first : ℕ) (others : List ℕ) (place : ℕ) → fold max first others < place → was_handed (first ∷ others) place ≡ false
none_handed first [] place above = rw (ne_eqb first place (λ same. omega (arith, same))) refl
none_handed first (next ∷ others) place above =
    let most : max first next ≤ fold max (max first next) others = least_of_top (max first next) others in
    let less : max first next < place = omega (arith, most, above) in
    let apart : (max first next == place) ≡ false = ne_eqb (max first next) place (λ same. omega (arith, same, less)) in
    let rest : was_handed others place ≡ false = rw apart at (none_handed (max first next) others place above) in
    rw (ne_eqb first place (λ same. omega (arith, same, less)), ne_eqb next place (λ same. omega (arith, same, less)), rest) refl

behind_in_time : (first : ℕ) (before rest : List ℕ) → ComeBehind (fold max first before) rest → AreInTime (first ∷ before) rest
behind_in_time first before [] behind = tt
behind_in_time first before (place ∷ rest) behind =
    let top : ℕ = fold max first before in
    let above : top < place = behind.0 in
    let near : place < top + 2 ^ 31 = behind.1 in
    let new : fold max first (before ++ place ∷ []) ≡ place = fold-append max first before (place ∷ []) ∙ omega (arith, above) in (
      record { first = none_handed first before place above; young = omega (arith, above); near = near },
      behind_in_time first (before ++ place ∷ []) rest (subst (λ (last : ℕ). ComeBehind last rest) (sym new) behind.2),
    )

in_order_in_time : (places : List ℕ) → AreInOrder places → AreInTime [] places
in_order_in_time [] order = tt
in_order_in_time (first ∷ rest) order = (tt, behind_in_time first [] rest order)

pub opened_where_lost : (sender receiver : Kerberos) (handed : List Placed) → ArePeers sender receiver → sender.seq_number < 2 ^ 32 → receiver.window.mask ≡ 0
    → AreAmongSent sender handed → AreInOrder (places_of handed) → AreOpened receiver (messages_of handed)
opened_where_lost sender receiver handed peers small new sent order =
    opened_in_time sender receiver handed peers small new sent (in_order_in_time (places_of handed) order)
