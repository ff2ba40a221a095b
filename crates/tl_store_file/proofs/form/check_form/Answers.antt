use Rattle.tl_store_file.proofs.form.check_form.Goals as goal

pub returns-clause-known : goal.returns-clause-known
returns-clause-known g c = λ clean shown. (c.version-form.result, c.if-form-gt-FORM.false, c.version-form.ensures clean shown)
