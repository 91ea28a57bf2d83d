use Rattle.std.proofs.Common.{List, ℕ, refl, ap, ◌∙◌}
use Rattle.krb_as.specs.FirstBodies.{service_components}
use Rattle.krb_as.proofs.BodyNames.{is_first_body, are_short}
use Rattle.krb_as.proofs.body.first_body.Goals as goal

pub returns-in-Ok-clause-made : goal.returns-in-Ok-clause-made
returns-in-Ok-clause-made c =
    is_first_body _ c.args.client.now c.args.service c.args.draw.now _ (record {
      realm = c.as_str-2.ensures.octets;
      username = c.as_str-3.ensures.octets;
      cname_type = refl;
      snames = c.service_components-snames.ensures ∙ ap (λ (realm : List ℕ). service_components c.args.service realm) c.as_str.ensures.octets;
      hostname = c.as_str-4.ensures.octets;
      nonce = c.octets.ensures;
    }) c.in-Ok.ensures.made

pub returns-in-Ok-clause-fits : goal.returns-in-Ok-clause-fits
returns-in-Ok-clause-fits c =
    c.in-Ok.ensures.within (are_short _ c.args.client.now c.args.service c.args.draw.now (record {
      realm = c.as_str-2.ensures.octets;
      username = c.as_str-3.ensures.octets;
      cname_type = refl;
      snames = c.service_components-snames.ensures ∙ ap (λ (realm : List ℕ). service_components c.args.service realm) c.as_str.ensures.octets;
      hostname = c.as_str-4.ensures.octets;
      nonce = c.octets.ensures;
    }) c.requires.short)
