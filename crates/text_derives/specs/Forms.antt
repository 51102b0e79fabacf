-- What kind of statement a node is, as the code keeps it.
use Rattle.swc_tree_grammar.specs.Forms.{Form as Form', Ordinary, PlainFunction, Declaring, Using}
use Rattle.text_derives.specs.declared.form.Form.{Form}
use Rattle.text_derives.specs.declared.form.Form.TheVariants as form

abbrev pub form_as : Form → Form'
form_as form.Ordinary = Ordinary
form_as form.PlainFunction = PlainFunction
form_as form.Declaring = Declaring
form_as form.Using = Using
