-- `checked` meets its contract: the test that the tag names is the definition's, over the catalogue and the policies that the file's
-- first bytes hold. Assumes nothing.
use native.Mathlib.Omega.{arith}
use mathlib.Core.Path.{◌∙◌}
use Rattle.deployment.specs.Catalogue.{catalogue_of}
use Rattle.catalogue.proofs.Catalogue.{nothing_missed}
use Rattle.reader.proofs.Checks.{checked_rule, checked_policy, checked_default, checked_keep, checked_script}
use Rattle.reader.proofs.file.checked.Goals as goal

pub returns-in-1 : goal.returns-in-1
returns-in-1 c =
    let a = c.args in
    let count = a.progress.layout.rules in
    λ f begun read.
    c.rule_tested.ensures
    ∙ nothing_missed count a.differing (catalogue_of 3 a.file.now) a.bytes.now (c.requires c.in-1.is)
    ∙ checked_rule a.file.now a.progress f begun a.tag a.bytes.now read c.in-1.is

pub returns-in-6 : goal.returns-in-6
returns-in-6 c =
    let a = c.args in
    λ f begun read.
    c.default_checked.ensures ∙ checked_default a.file.now a.progress f begun a.tag a.bytes.now read c.in-6.is

pub returns-in-4 : goal.returns-in-4
returns-in-4 c =
    let a = c.args in
    λ f begun read.
    c.keep_checked.ensures
    ∙ checked_keep a.file.now a.progress f begun a.tag a.bytes.now read _ _ c.value.ensures c.value-in-4.ensures c.in-4.is

pub returns-in-5 : goal.returns-in-5
returns-in-5 c =
    let a = c.args in
    λ f begun read.
    c.script_checked.ensures ∙ checked_script a.file.now a.progress f begun a.tag a.bytes.now read c.in-5.is

pub returns-in_default : goal.returns-in_default
returns-in_default c =
    let a = c.args in
    λ f begun read.
    c.policy_checked.ensures
    ∙ checked_policy a.file.now a.progress f begun a.tag a.bytes.now read
    (λ e. omega arith) (λ e. omega arith) (λ e. omega arith) (λ e. omega arith)
