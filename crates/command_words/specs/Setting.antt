-- A setting of the code as one of the definitions.
use Rattle.command_words.specs.Meaning as meaning
use Rattle.command_words.specs.declared.settings.Setting.{Setting}

abbrev pub setting_of : Setting → meaning.Setting
setting_of setting = record { name = setting.name.now; least = setting.least; most = setting.most; usual = setting.usual }
