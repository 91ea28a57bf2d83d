use Rattle.std.specs.Prelude.{◌++◌, codes}
use Rattle.krb_keys.specs.Names.{components_text}
use Rattle.krb_keys.proofs.Appends.{behind_ok}
use Rattle.krb_keys.proofs.key_lines.push_left_out.Goals as goal

pub returns : goal.returns
returns c =
    behind_ok c.push_left_out_name.result _ _ _ (codes "# no key line can name ") (components_text c.args.parts.now ++ codes "\n")
    c.in_ok-extend_from_slice.ensures.items c.push_left_out_name.ensures
